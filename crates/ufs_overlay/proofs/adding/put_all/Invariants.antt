use Rattle.std.proofs.Common.{◌≡◌, ◌≤◌, ◌+◌, ◌*◌, ℕ, ◌++◌, length, take}
use Rattle.std.specs.Prelude.{max}
use Rattle.ufs_overlay.specs.Lists.{lists_of, room_in}
use Rattle.ufs_overlay.specs.Over.{numbered_of}
use Rattle.ufs_overlay.proofs.adding.put_all.Given as goal

abbrev pub invariant-loop-at : goal.invariant-loop-at
invariant-loop-at l = ((k : ℕ) → lists_of l.lists k ≡ lists_of l.fn.lists k ++ numbered_of l.geometry k l.number (take l.at l.records))
    × ((k : ℕ) → room_in l.lists k ≤ max (room_in l.fn.lists k) (2 * (length (lists_of l.fn.lists k) + l.at)))

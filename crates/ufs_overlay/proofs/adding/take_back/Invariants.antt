use Rattle.std.proofs.Common.{◌≡◌, ℕ, ◌-◌, List, ◌++◌, length, take}
use Rattle.ufs_overlay.specs.declared.lists.Numbered.{Numbered}
use Rattle.ufs_overlay.specs.Lists.{lists_of, room_in}
use Rattle.ufs_overlay.specs.Over.{numbered_of}
use Rattle.ufs_overlay.proofs.adding.take_back.Given as goal

abbrev pub invariant-loop-done : goal.invariant-loop-done
invariant-loop-done l = ((number : ℕ) (before : ℕ → List Numbered) → ((k : ℕ) → lists_of l.fn.lists k ≡ before k ++ numbered_of l.geometry k number l.records)
    → (k : ℕ) → lists_of l.lists k ≡ before k ++ numbered_of l.geometry k number (take (length l.records - l.done) l.records))
    × ((k : ℕ) → room_in l.lists k ≡ room_in l.fn.lists k)

use Rattle.std.proofs.Common.{◌≡◌, ◌++◌}
use Rattle.ufs_metadata.specs.Told.{slots_in}
use Rattle.ufs_metadata.proofs.dirs.push_slots.Given as goal

abbrev pub invariant-loop-i : goal.invariant-loop-i
invariant-loop-i l = l.slots.items ≡ l.fn.slots.items ++ slots_in l.i l.bytes

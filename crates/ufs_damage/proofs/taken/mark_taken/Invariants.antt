use Rattle.std.proofs.Common.{◌≡◌, take}
use Rattle.ufs_damage.specs.Taken.{taken_marks}
use Rattle.ufs_damage.proofs.taken.mark_taken.Given as goal

abbrev pub invariant-loop-block : goal.invariant-loop-block
invariant-loop-block l = l.marks.items ≡ taken_marks l.first (take l.block l.held)

use Rattle.std.proofs.Common.{◌≡◌, ◌++◌, drop}
use Rattle.ufs_recovery.specs.Fitted.{first_extents}
use Rattle.ufs_recovery.proofs.cutting.first_extents.Given as goal

abbrev pub invariant-loop-extent : goal.invariant-loop-extent
invariant-loop-extent l = l.kept.items ++ first_extents (drop l.extent-index l.extents) l.left ≡ first_extents l.extents l.fn.count

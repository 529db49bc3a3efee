use Rattle.std.proofs.Common.{◌≡◌, take}
use Rattle.ufs_ilog.specs.Deltas.{extents_of}
use Rattle.ufs_ilog.proofs.inode_log.extents_from.Given as goal

abbrev pub invariant-loop-run : goal.invariant-loop-run
invariant-loop-run l = l.extents.items ≡ extents_of (take l.run-index l.runs)

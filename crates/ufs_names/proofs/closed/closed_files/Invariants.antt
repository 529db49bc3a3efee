use Rattle.ufs_names.proofs.ClosedLemmas.{AreClosedBelow}
use Rattle.ufs_names.proofs.closed.closed_files.Given as goal

abbrev pub invariant-loop-inode : goal.invariant-loop-inode
invariant-loop-inode l = AreClosedBelow l.tree l.inode l.held

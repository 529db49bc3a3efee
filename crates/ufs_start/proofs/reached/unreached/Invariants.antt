use Rattle.ufs_start.proofs.Reaching.{AreReachedTo}
use Rattle.ufs_start.proofs.reached.unreached.Given as goal

abbrev pub invariant-loop-place : goal.invariant-loop-place
invariant-loop-place l = AreReachedTo l.dirs l.marks l.place

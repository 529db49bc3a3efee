use Rattle.std.proofs.Common.{length}
use Rattle.ufs_scan.proofs.Linked.{IsLinked}
use Rattle.ufs_scan.proofs.chains.chains_of.Given as goal

abbrev pub invariant-loop-first : goal.invariant-loop-first
invariant-loop-first l = IsLinked l.steps l.rest l.chains.items

abbrev pub decreases-loop-first : goal.decreases-loop-first
decreases-loop-first l = length l.rest

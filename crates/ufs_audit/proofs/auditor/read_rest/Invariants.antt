use Rattle.std.proofs.Common.{◌≡◌, ◌+◌, ℕ, List, false, cond}
use Rattle.ufs_audit.specs.Ends.{Reads, IsLast}
use Rattle.ufs_audit.proofs.auditor.read_rest.Given as goal

abbrev pub invariant-loop-more : goal.invariant-loop-more
invariant-loop-more g l = record {
  same : g.S.Source.faults l.source ≡ g.S.Source.faults l.initial.source;
  text : List ℕ;
  reads : Reads (g.S.Source.left l.initial.source) (g.S.Source.left l.source) l.initial.ahead l.ahead l.initial.room l.room text;
  last : l.more ≡ false → IsLast (g.S.Source.left l.source) l.ahead;
}

abbrev pub decreases-loop-more : goal.decreases-loop-more
decreases-loop-more g l = cond l.more (l.room + 1) 0

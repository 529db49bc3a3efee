use Rattle.std.proofs.Common.{◌≡◌, ◌+◌, ◌-◌, length}
use Rattle.ufs_audit.proofs.ReadLemmas.{IsPartLine}
use Rattle.ufs_audit.proofs.reader.next_line.Given as goal

abbrev pub invariant-loop-alloc : goal.invariant-loop-alloc
invariant-loop-alloc g l = record {
  same : g.S.Source.faults l.source ≡ g.S.Source.faults l.initial.source;
  part : IsPartLine (g.S.Source.left l.initial.source) (g.S.Source.left l.source) l.initial.ahead l.ahead l.line.items;
}

abbrev pub decreases-loop-alloc : goal.decreases-loop-alloc
decreases-loop-alloc g l = (l.fn.most + 1) - length l.line.items

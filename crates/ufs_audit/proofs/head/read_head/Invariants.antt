use Rattle.std.proofs.Common.{◌≡◌, ◌-◌, length}
use Rattle.ufs_audit.proofs.HeadLemmas.{IsHead}
use Rattle.ufs_audit.proofs.head.read_head.Given as goal

abbrev pub invariant-loop-alloc : goal.invariant-loop-alloc
invariant-loop-alloc g l = record {
  same : g.S.Source.faults l.source ≡ g.S.Source.faults l.initial.source;
  head : IsHead (g.S.Source.left l.initial.source) (g.S.Source.left l.source) l.ahead l.text.items;
}

abbrev pub decreases-loop-alloc : goal.decreases-loop-alloc
decreases-loop-alloc g l = 16777217 - length l.text.items

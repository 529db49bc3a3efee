use Rattle.std.proofs.Common.{◌≡◌}
use Rattle.ufs_audit.specs.Audit.{text_of}
use Rattle.ufs_audit.specs.Ends.{Reads}
use Rattle.ufs_audit.proofs.AnswerLemmas.{AreOwn}
use Rattle.ufs_audit.proofs.answers.own_answers.Given as goal

abbrev pub invariant-loop-op : goal.invariant-loop-op
invariant-loop-op g l = record {
  same : g.S.Source.faults l.source ≡ g.S.Source.faults l.initial.source;
  reads : Reads (g.S.Source.left l.initial.source) (g.S.Source.left l.source) l.initial.ahead l.ahead l.initial.room l.room (text_of l.lines.items);
  own : AreOwn l.fn.client l._op-index l.lines.items;
  numbered : l.seq ≡ l._op-index;
}

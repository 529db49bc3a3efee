use Rattle.std.proofs.Common.{◌≡◌}
use Rattle.std.specs.List.{flat_map}
use Rattle.ufs_audit.specs.Audit.{text_of}
use Rattle.ufs_audit.specs.Ends.{Reads}
use Rattle.ufs_audit.proofs.AnswerLemmas.{AreSoFar}
use Rattle.ufs_audit.proofs.answers.read_answers.Given as goal

abbrev pub invariant-loop-requests : goal.invariant-loop-requests
invariant-loop-requests g l = record {
  same : g.S.Source.faults l.source ≡ g.S.Source.faults l.initial.source;
  reads : Reads (g.S.Source.left l.initial.source) (g.S.Source.left l.source) l.initial.ahead l.ahead l.initial.room l.room (flat_map text_of l.lists.items);
  so_far : AreSoFar l.fn.clients l.requests-index l.lists.items;
  numbered : l.client ≡ l.requests-index;
}

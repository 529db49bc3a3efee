use Rattle.std.proofs.Common.{◌≡◌, ◌++◌, take}
use Rattle.ufs_model.specs.History.{joined}
use Rattle.ufs_print.specs.Pieces.{IsPassed}
use Rattle.ufs_print.specs.Printed.{entry_lines}
use Rattle.ufs_print.proofs.transcripts.print_lists.Given as goal

abbrev pub invariant-loop-list : goal.invariant-loop-list
invariant-loop-list g l = record {
  same : g.K.Sink.faults l.sink ≡ g.K.Sink.faults l.initial.sink;
  put : IsPassed (g.K.Sink.held l.initial.sink) (g.K.Sink.held l.sink) l.waiting (l.initial.waiting ++ entry_lines l.kind (joined (take l.list-index l.told)));
}

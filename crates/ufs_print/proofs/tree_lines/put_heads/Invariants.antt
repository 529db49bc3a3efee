use Rattle.std.proofs.Common.{◌≡◌, ◌++◌, take}
use Rattle.ufs_print.specs.Pieces.{IsPassed}
use Rattle.ufs_print.specs.TreeLines.{head_lines}
use Rattle.ufs_print.proofs.tree_lines.put_heads.Given as goal

abbrev pub invariant-loop-head : goal.invariant-loop-head
invariant-loop-head g l = record {
  same : g.K.Sink.faults l.sink ≡ g.K.Sink.faults l.initial.sink;
  put : IsPassed (g.K.Sink.held l.initial.sink) (g.K.Sink.held l.sink) l.waiting (l.initial.waiting ++ head_lines (take l.head-index l.heads));
}

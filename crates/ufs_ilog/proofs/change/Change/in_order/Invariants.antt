use Rattle.std.proofs.Common.{◌≡◌, ◌+◌, length}
use Rattle.ufs_ilog.specs.Changes.{in_order}
use Rattle.ufs_ilog.proofs.OrderLemmas.{onto}
use Rattle.ufs_ilog.proofs.change.Change.in_order.Given as goal

abbrev pub invariant-loop-done : goal.invariant-loop-done
invariant-loop-done l = record {
  rest : length l.records.items + l.done ≡ l.count;
  so_far : onto l.records.items l.ordered.items ≡ in_order l.fn.records.items;
}

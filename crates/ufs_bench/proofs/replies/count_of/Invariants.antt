use Rattle.std.proofs.Common.{◌≡◌, ◌≤◌, ◌*◌, take}
use Rattle.ufs_model.specs.History.{joined}
use Rattle.ufs_bench.specs.Summary.{count_in}
use Rattle.ufs_bench.proofs.replies.count_of.Given as goal

abbrev pub invariant-loop-list : goal.invariant-loop-list
invariant-loop-list l = record {
  value : l.count ≡ count_in l.kind (joined (take l.list-index l.told));
  few : l.count ≤ l.list-index * 18446744073709551616;
}

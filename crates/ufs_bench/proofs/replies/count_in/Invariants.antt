use Rattle.std.proofs.Common.{◌≡◌, ◌≤◌, take}
use Rattle.ufs_bench.specs.Summary.{count_in}
use Rattle.ufs_bench.proofs.replies.count_in.Given as goal

abbrev pub invariant-loop-entry : goal.invariant-loop-entry
invariant-loop-entry l = record {
  value : l.count ≡ count_in l.kind (take l.entry-index l.entries);
  few : l.count ≤ l.entry-index;
}

use Rattle.std.proofs.Common.{◌≡◌, ◌+◌, ◌≤◌}
use Rattle.ufs_file.specs.Table.{absent_within, there_of}
use Rattle.ufs_file.proofs.cover.absent_count.Given as goal

abbrev pub invariant-loop-k : goal.invariant-loop-k
invariant-loop-k l = record {
  counted : l.count + absent_within (there_of l.table) l.k l.to ≡ absent_within (there_of l.table) l.from l.to;
  few : l.count ≤ l.k;
}

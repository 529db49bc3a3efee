use Rattle.std.proofs.Common.{◌≡◌, ◌≤◌, ◌+◌, length, take}
use Rattle.ufs_extent.specs.Runs.{next_block, appended_all}
use Rattle.ufs_extent.proofs.file_runs.Extents.count_with.Given as goal

abbrev pub invariant-loop-run : goal.invariant-loop-run
invariant-loop-run l = record {
  so_far : l.count ≡ length (appended_all l.self (take l.run-index l.runs));
  next_is : l.next ≡ next_block (appended_all l.self (take l.run-index l.runs));
  small : l.count ≤ 56 + l.run-index;
}

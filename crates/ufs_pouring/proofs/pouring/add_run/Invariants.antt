use Rattle.std.proofs.Common.{◌≡◌, ◌-◌, ◌≤◌, ◌+◌}
use Rattle.std.specs.FinSet as set
use Rattle.ufs_extent.specs.Runs.{blocks_from}
use Rattle.ufs_pouring.proofs.pouring.add_run.Given as goal

abbrev pub invariant-loop-block : goal.invariant-loop-block
invariant-loop-block l = record {
  so_far : l.pool ≡ set.union l.initial.pool (set.from_list (blocks_from l.fn.run.start (l.block - l.fn.run.start)));
  from : l.fn.run.start ≤ l.block;
  not_past : l.block ≤ l.fn.run.start + l.fn.run.length;
}

use Rattle.std.proofs.Common.{◌≤◌}
use Rattle.std.specs.Prelude.{All, vec_capacity}
use Rattle.std.specs.FinSet as set
use Rattle.ufs_extent.specs.Runs.{IsRun}
use Rattle.ufs_bitmap.specs.Taking.{Takes}
use Rattle.ufs_bitmap.proofs.taking.take_runs.Given as goal

abbrev pub invariant-loop-left : goal.invariant-loop-left
invariant-loop-left l = record {
  taken : Takes l.initial.pool l.want l.runs.items l.pool l.left;
  runs : All IsRun l.runs.items;
  enough : l.left ≤ set.len l.pool;
  room : l.want ≤ vec_capacity l.runs;
}

abbrev pub decreases-loop-left : goal.decreases-loop-left
decreases-loop-left l = l.left

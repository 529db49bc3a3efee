use Rattle.std.proofs.Common.{◌≡◌, drop}
use Rattle.std.specs.FinSet as set
use Rattle.ufs_bitmap.specs.Taking.{set_of}
use Rattle.ufs_pouring.proofs.pouring.add_runs.Given as goal

abbrev pub invariant-loop-run : goal.invariant-loop-run
invariant-loop-run l = record {
  so_far : set.union l.pool (set_of (drop l.run-index l.runs)) ≡ set.union l.initial.pool (set_of l.runs);
}

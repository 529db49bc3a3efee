use Rattle.std.proofs.Common.{◌-◌, slice_index}
use Rattle.ufs_load.specs.Plan.{IsLeast}
use Rattle.ufs_load.proofs.totals.least_loaded.Given as goal

abbrev pub invariant-loop-worker : goal.invariant-loop-worker
invariant-loop-worker l = IsLeast (λ w. slice_index l.totals w) (l.worker - 1) l.least

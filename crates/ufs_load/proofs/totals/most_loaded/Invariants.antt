use Rattle.std.proofs.Common.{◌-◌, slice_index}
use Rattle.ufs_load.specs.Plan.{IsMost}
use Rattle.ufs_load.proofs.totals.most_loaded.Given as goal

abbrev pub invariant-loop-worker : goal.invariant-loop-worker
invariant-loop-worker l = IsMost (λ w. slice_index l.totals w) (l.worker - 1) l.most

use Rattle.std.proofs.Common.{ℕ, ◌≡◌, ◌+◌, eqb, length}
use Rattle.std.specs.Prelude.{slice_get, Some}
use Rattle.ufs_joint.specs.FirstHand.{each_of, pool_of}
use Rattle.ufs_gathered.specs.Gathered.{HasPoolsAlone}
use Rattle.ufs_joint.specs.Whole.{no_blocks}
use Rattle.ufs_hand_laws.specs.Owned.{count}
use Rattle.ufs_worker.specs.Worker.{WorkerState}
use Rattle.ufs_rounds.proofs.gathering.gather_pools.Given as goal

-- so many are there
abbrev pub invariant-loop-worker : goal.invariant-loop-worker
invariant-loop-worker g l =
    (k : ℕ)
    × ((place : ℕ) (w : WorkerState) → slice_get l.worker-iterator.rest.items place ≡ Some w → w.number ≡ place + k)
    × HasPoolsAlone l.pools
    × ((n : ℕ) → count eqb n l.pools.pools ≡ count eqb n (each_of pool_of no_blocks k))
    × (k + length l.worker-iterator.rest.items ≡ 1 + length l.fn.workers.items)

use Rattle.std.proofs.Common.{subst}
use Rattle.ufs_joint.specs.FirstHand.{HasPoolAlone, pool_of}
use Rattle.ufs_worker.specs.Worker.{WorkerState}
use Rattle.ufs_worker.proofs.worker.Worker.into_hand.Goals as goal

pub returns : goal.returns
returns g c = (c.self.inside.pool, subst (λ (w : WorkerState). HasPoolAlone (pool_of w.number) c.self.inside.pool c.self.inside.right) c.self.view_is c.self.invariant.0.hand)

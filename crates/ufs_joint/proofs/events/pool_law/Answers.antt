use Rattle.ufs_joint.proofs.Pools.{pools_join, pools_part, pools_stay}
use Rattle.ufs_joint.proofs.events.pool_law.Goals as goal

pub returns : goal.returns
returns c = record { pools = pools_stay; join = pools_join; part = pools_part }

use Rattle.ufs_joint.proofs.Reclaiming.{reclaim_failures_may_end, reclaims_go_on, reclaims_may_end}
use Rattle.ufs_joint.proofs.laws.dropped_blocks_come_back.Goals as goal

pub returns : goal.returns
returns c = record {
  may = reclaims_may_end c.args.geometry.now c.reclaim_law.ensures.known c.reclaim_law.ensures.sound c.always_law.ensures.checkpoint;
  on = reclaims_go_on c.args.geometry.now c.reclaim_law.ensures.known c.reclaim_law.ensures.sound c.always_law.ensures.checkpoint;
  failed = reclaim_failures_may_end c.args.geometry.now c.promise_law.ensures.beginning c.ready_law.ensures.checkpoint c.always_law.ensures.checkpoint;
}

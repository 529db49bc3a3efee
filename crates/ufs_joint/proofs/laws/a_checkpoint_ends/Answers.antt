use Rattle.ufs_joint.proofs.Checkpointing.{checkpoints_go_on, checkpoints_may_end}
use Rattle.ufs_joint.proofs.laws.a_checkpoint_ends.Goals as goal

pub returns : goal.returns
returns c = record {
  may = checkpoints_may_end c.args.geometry.now c.promise_law.ensures.beginning c.ready_law.ensures.checkpoint c.always_law.ensures.checkpoint;
  on = checkpoints_go_on c.args.geometry.now c.promise_law.ensures.beginning c.ready_law.ensures.checkpoint c.always_law.ensures.checkpoint;
}

use Rattle.ufs_joint.proofs.NamesAcks.{syncs_may_draw}
use Rattle.ufs_joint.proofs.laws.a_sync_is_acknowledged.Goals as goal

pub returns : goal.returns
returns c = syncs_may_draw c.args.geometry.now c.sync_law.ensures

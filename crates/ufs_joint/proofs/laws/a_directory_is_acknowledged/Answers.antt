use Rattle.ufs_joint.proofs.NamesAcks.{dirs_may_draw}
use Rattle.ufs_joint.proofs.laws.a_directory_is_acknowledged.Goals as goal

pub returns : goal.returns
returns c = dirs_may_draw c.ack_law.ensures.dir

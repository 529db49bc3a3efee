use Rattle.ufs_joint.proofs.Beginning.{ready_can_begin}
use Rattle.ufs_joint.proofs.first.first_hand_law.Goals as goal

pub returns : goal.returns
returns c = ready_can_begin c.args.geometry.now c.names_law.ensures.nothing

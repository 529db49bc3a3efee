use Rattle.ufs_joint.proofs.Lent.{lent_apart, lent_served}
use Rattle.ufs_joint.proofs.events.lent_law.Goals as goal

pub returns : goal.returns
returns c = record { apart = lent_apart; served = lent_served }

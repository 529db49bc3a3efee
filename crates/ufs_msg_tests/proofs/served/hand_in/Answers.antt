use Rattle.ufs_msg_tests.proofs.Passing.{told_alone}
use Rattle.ufs_msg_tests.proofs.served.hand_in.Goals as goal

pub returns : goal.returns
returns g c = told_alone g.N.Naming.start 0 _ _ _ _ _ c.holds.ensures c.into_parts-hand.ensures.told

use Rattle.ufs_hand_laws.proofs.Knowing.{knows}
use Rattle.ufs_hand_laws.proofs.laws.a_hand_knows.Goals as goal

pub returns : goal.returns
returns g c = knows c.a_request_keeps_the_tree.ensures g.P.Promise.shows

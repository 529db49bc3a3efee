use Rattle.ufs_hand_laws.proofs.Ending.{ends_whole}
use Rattle.ufs_hand_laws.proofs.laws.an_end_is_whole.Goals as goal

pub returns : goal.returns
returns g c = ends_whole c.a_request_keeps_the_tree.ensures g.P.Promise.shows

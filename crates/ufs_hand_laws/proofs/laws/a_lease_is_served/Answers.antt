use Rattle.ufs_hand_laws.proofs.Leased.{is_leased}
use Rattle.ufs_hand_laws.proofs.laws.a_lease_is_served.Goals as goal

pub returns : goal.returns
returns g c = is_leased c.a_request_keeps_the_tree.ensures c.a_request_is_local.ensures c.a_request_makes_one_file_at_most.ensures g.P.Promise.shows

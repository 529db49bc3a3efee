use Rattle.ufs_hand_laws.proofs.Synced.{is_synced}
use Rattle.ufs_hand_laws.proofs.laws.a_write_is_synced.Goals as goal

pub returns : goal.returns
returns g c = is_synced c.a_request_keeps_the_tree.ensures c.a_request_is_local.ensures c.a_request_makes_one_file_at_most.ensures g.P.Promise.shows

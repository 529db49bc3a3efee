use Rattle.ufs_hand_laws.proofs.Session.{is_short_session}
use Rattle.ufs_hand_laws.specs.First.{settled_cells}
use Rattle.ufs_hand_laws.proofs.laws.a_short_session_is_sound.Goals as goal

pub returns : goal.returns
returns c sectors image room new ends =
    is_short_session c.a_request_keeps_the_tree.ensures c.a_request_is_local.ensures c.a_request_makes_one_file_at_most.ensures c.args.geometry.now (settled_cells sectors image)
    (c.a_new_disk_can_be_opened.ensures.told 1 sectors image room new ends) (c.a_new_disk_can_be_opened.ensures.visible 1 sectors image room new ends)

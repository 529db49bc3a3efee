use Rattle.ufs_hand_laws.proofs.First.{new_opens, blind_opens}
use Rattle.ufs_hand_laws.proofs.Visible.{new_visible}
use Rattle.ufs_hand_laws.proofs.laws.a_new_disk_can_be_opened.Goals as goal

pub returns-clause-told : goal.returns-clause-told
returns-clause-told c clients sectors image room new ends = new_opens c.a_request_keeps_the_tree.ensures c.a_start_is_a_tree.ensures.contents c.args.geometry.now clients sectors image c.new_image_law.ensures.opens room new ends

pub returns-clause-visible : goal.returns-clause-visible
returns-clause-visible c clients sectors image room new ends = let law = c.new_image_law.ensures in new_visible c.args.geometry.now clients sectors image law.opens law.proper law.sound room new ends

pub returns-clause-blind : goal.returns-clause-blind
returns-clause-blind c = blind_opens

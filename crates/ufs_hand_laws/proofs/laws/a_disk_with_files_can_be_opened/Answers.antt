use Rattle.ufs_hand_laws.proofs.Opened.{opened_can, settled_disks_open}
use Rattle.ufs_hand_laws.proofs.Visible.{settled_disks_visible}
use Rattle.ufs_hand_laws.proofs.laws.a_disk_with_files_can_be_opened.Goals as goal

pub returns-clause-serves : goal.returns-clause-serves
returns-clause-serves c d can = opened_can c.a_request_keeps_the_tree.ensures c.a_start_is_a_tree.ensures.contents d can

pub returns-clause-visible : goal.returns-clause-visible
returns-clause-visible c = settled_disks_visible

pub returns-clause-settled : goal.returns-clause-settled
returns-clause-settled c = settled_disks_open

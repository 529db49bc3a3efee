use Rattle.ufs_one_hand.proofs.Beginning.{starts_begin}
use Rattle.ufs_one_hand.proofs.hand.starts_can_begin.Goals as goal

pub returns : goal.returns
returns c = starts_begin c.a_disk_with_files_can_be_opened.ensures.serves

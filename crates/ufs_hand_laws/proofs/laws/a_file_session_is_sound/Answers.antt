use Rattle.ufs_hand_laws.proofs.FileSession.{is_file_session, blind_files}
use Rattle.ufs_hand_laws.proofs.SmallDisk.{has_one_file}
use Rattle.ufs_hand_laws.proofs.laws.a_file_session_is_sound.Goals as goal

pub returns-clause-served : goal.returns-clause-served
returns-clause-served c = is_file_session c.a_request_keeps_the_tree.ensures c.a_request_is_local.ensures c.a_request_makes_one_file_at_most.ensures c.a_start_is_a_tree.ensures.contents

pub returns-clause-blind : goal.returns-clause-blind
returns-clause-blind c = blind_files

pub returns-clause-small : goal.returns-clause-small
returns-clause-small c = has_one_file

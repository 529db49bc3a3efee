use Rattle.ufs_joint.proofs.Acks.{dir_acknowledged, file_acknowledged}
use Rattle.ufs_joint.proofs.events.ack_law.Goals as goal

pub returns : goal.returns
returns c = record {
  file = file_acknowledged c.a_request_keeps_the_tree.ensures c.an_entry_keeps_what_is_shown.ensures.fsync;
  dir = dir_acknowledged c.a_request_keeps_the_tree.ensures c.an_entry_keeps_what_is_shown.ensures.dir_fsync;
}

use Rattle.ufs_joint.proofs.Failing.{failed_files}
use Rattle.ufs_joint.proofs.Syncing.{files_known}
use Rattle.ufs_joint.proofs.Writing.{written_files}
use Rattle.ufs_joint.proofs.events.file_law.Goals as goal

pub returns : goal.returns
returns c = record {
  known = files_known c.file_commit_law.ensures.committed c.file_commit_law.ensures.settled c.standing_law.ensures.may c.committing_law.ensures.may;
  failed = failed_files c.a_request_keeps_the_tree.ensures c.committing_law.ensures.written c.committing_law.ensures.shown c.committing_law.ensures.may c.standing_law.ensures.may c.committing_law.ensures.bytes;
  written = written_files c.args.geometry.now c.ready_law.ensures.checkpoint c.committing_law.ensures.written c.standing_law.ensures.may c.committing_law.ensures.bytes c.standing_law.ensures.written c.others_law.ensures.writes;
}

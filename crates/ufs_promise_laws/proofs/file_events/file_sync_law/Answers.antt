use Rattle.ufs_promise_laws.proofs.Ready.{syncs_may_begin}
use Rattle.ufs_promise_laws.proofs.Sound.{sound_by_syncs}
use Rattle.ufs_promise_laws.proofs.Syncing.{file_syncs_go_on}
use Rattle.ufs_promise_laws.proofs.file_events.file_sync_law.Goals as goal

pub returns : goal.returns
returns c = record {
  may = syncs_may_begin;
  ok = file_syncs_go_on c.file_commit_law.ensures.committed c.file_commit_law.ensures.settled c.standing_law.ensures.may c.committing_law.ensures.may;
  sound = sound_by_syncs;
}

use Rattle.ufs_promise_laws.proofs.Forgetting.{committed_is_forgotten, put_back_as_it_was}
use Rattle.ufs_promise_laws.proofs.CommitsTold.{on_disk_as_told, sound_as_told, synced_as_told}
use Rattle.ufs_promise_laws.proofs.file_events.told_law.Goals as goal

pub returns : goal.returns
returns c = record { on_disk = on_disk_as_told; synced = synced_as_told; sound = sound_as_told; forgotten = committed_is_forgotten; back = put_back_as_it_was }

use Rattle.ufs_crash_laws.proofs.Facts.Explains.{covering-push}
use Rattle.ufs_crash_laws.proofs.Facts.Acks.{fsync_covered, dir_fsync_covered, sync_covered}
use Rattle.ufs_crash_laws.proofs.StepLemmas.{keep_shown, others_nothing}
use Rattle.ufs_crash_laws.proofs.laws.an_entry_keeps_what_is_shown.Goals as goal

pub returns : goal.returns
returns c = record { shown = keep_shown; covering = covering-push; other = others_nothing; fsync = fsync_covered; dir_fsync = dir_fsync_covered; sync = sync_covered }

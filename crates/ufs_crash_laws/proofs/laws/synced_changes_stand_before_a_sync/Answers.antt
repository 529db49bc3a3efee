use Rattle.ufs_crash_laws.proofs.LawLemmas.{count_files, count_names}
use Rattle.ufs_crash_laws.proofs.laws.synced_changes_stand_before_a_sync.Goals as goal

pub returns : goal.returns
returns c = record { files = count_files; names = count_names }

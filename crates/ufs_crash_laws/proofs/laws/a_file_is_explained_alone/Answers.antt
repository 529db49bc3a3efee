use Rattle.ufs_crash_laws.proofs.StepLemmas.{explained_alone, local}
use Rattle.ufs_crash_laws.proofs.Facts.Local.{file_untouched, names_untouched}
use Rattle.ufs_crash_laws.proofs.laws.a_file_is_explained_alone.Goals as goal

pub returns : goal.returns
returns c = record { alone = explained_alone; untouched = λ t entry file legal. file_untouched t entry legal file; untouched_names = names_untouched; local = local c.a_request_is_local.ensures }

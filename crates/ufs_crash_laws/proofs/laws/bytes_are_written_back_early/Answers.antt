use Rattle.ufs_crash_laws.proofs.StepLemmas.{back_shown, back_trees}
use Rattle.ufs_crash_laws.proofs.laws.bytes_are_written_back_early.Goals as goal

pub returns : goal.returns
returns c = record { file = back_shown; tree = back_trees }

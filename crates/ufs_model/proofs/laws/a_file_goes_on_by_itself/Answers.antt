use Rattle.ufs_model.proofs.FileStepLemmas.{steps_are_posix, refusals_are_posix, own_is_by_desc}
use Rattle.ufs_model.proofs.laws.a_file_goes_on_by_itself.Goals as goal

pub returns-clause-steps : goal.returns-clause-steps
returns-clause-steps c = steps_are_posix

pub returns-clause-refusals : goal.returns-clause-refusals
returns-clause-refusals c = refusals_are_posix

pub returns-clause-own : goal.returns-clause-own
returns-clause-own c = own_is_by_desc

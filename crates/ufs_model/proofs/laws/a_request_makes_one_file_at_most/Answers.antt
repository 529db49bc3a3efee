use Rattle.ufs_model.proofs.RefusalLemmas.{makes_one}
use Rattle.ufs_model.proofs.laws.a_request_makes_one_file_at_most.Goals as goal

pub returns : goal.returns
returns c = makes_one

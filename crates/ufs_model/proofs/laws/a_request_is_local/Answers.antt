use Rattle.ufs_model.proofs.LocalLemmas.{local}
use Rattle.ufs_model.proofs.laws.a_request_is_local.Goals as goal

pub returns : goal.returns
returns c = local

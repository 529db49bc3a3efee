use Rattle.ufs_model.proofs.KeepLemmas.{keeps}
use Rattle.ufs_model.proofs.laws.a_request_keeps_the_tree.Goals as goal

pub returns : goal.returns
returns c = keeps

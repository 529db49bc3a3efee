use Rattle.ufs_model.proofs.NewNameLemmas.{lie_apart}
use Rattle.ufs_model.proofs.laws.two_names_lie_apart.Goals as goal

pub returns : goal.returns
returns c = lie_apart

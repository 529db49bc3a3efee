use Rattle.ufs_model.proofs.RefusalLemmas.{stays}
use Rattle.ufs_model.proofs.laws.a_refusal_changes_nothing.Goals as goal

pub returns : goal.returns
returns c = stays

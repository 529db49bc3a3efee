use Rattle.ufs_script.proofs.FoldLemmas.{longer_alike}
use Rattle.ufs_script.proofs.law.a_longer_text_breaks_alike.Goals as goal

pub returns : goal.returns
returns c = longer_alike

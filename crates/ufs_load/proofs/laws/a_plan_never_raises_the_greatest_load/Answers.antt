use Rattle.ufs_load.proofs.LoadLemmas.{lead_bound}
use Rattle.ufs_load.proofs.laws.a_plan_never_raises_the_greatest_load.Goals as goal

pub returns : goal.returns
returns c loads workers limit moves most d b p = lead_bound loads workers most moves p.left d b p.lead

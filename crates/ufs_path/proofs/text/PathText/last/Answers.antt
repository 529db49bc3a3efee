use Rattle.ufs_path.proofs.KeptLemmas.{last_parted}
use Rattle.ufs_path.proofs.text.PathText.last.Goals as goal

pub returns-clause-value : goal.returns-clause-value
returns-clause-value c = last_parted c.args.self.now c.len.result c.component.result.now c.len.ensures.value c.requires c.component.ensures.value

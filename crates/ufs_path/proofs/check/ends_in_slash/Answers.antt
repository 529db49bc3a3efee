use Rattle.ufs_path.proofs.FaultLemmas.{ends_in_slash-at}
use Rattle.ufs_path.proofs.check.ends_in_slash.Goals as goal

pub returns-in-len1-up : goal.returns-in-len1-up
returns-in-len1-up c = ends_in_slash-at c.args.text.now c.in-len1-up.len_at_least

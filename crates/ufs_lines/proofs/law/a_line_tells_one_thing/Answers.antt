use Rattle.ufs_lines.proofs.TellLemmas.{tell_one}
use Rattle.ufs_lines.proofs.law.a_line_tells_one_thing.Goals as goal

pub returns : goal.returns
returns c = tell_one

use Rattle.ufs_audit.proofs.PrintedLemmas.{printed_front}
use Rattle.ufs_audit.proofs.law.a_printed_front_is_legal.Goals as goal

pub returns : goal.returns
returns c = printed_front

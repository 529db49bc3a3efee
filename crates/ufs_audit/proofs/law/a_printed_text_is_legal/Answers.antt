use Rattle.ufs_audit.proofs.PrintedLemmas.{printed_legal}
use Rattle.ufs_audit.proofs.law.a_printed_text_is_legal.Goals as goal

pub returns : goal.returns
returns c = printed_legal

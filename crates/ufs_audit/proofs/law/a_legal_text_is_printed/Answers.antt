use Rattle.ufs_audit.proofs.HistoryLemmas.{legal_printed}
use Rattle.ufs_audit.proofs.law.a_legal_text_is_printed.Goals as goal

pub returns : goal.returns
returns c = legal_printed

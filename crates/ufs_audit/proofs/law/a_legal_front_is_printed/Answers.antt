use Rattle.ufs_audit.proofs.HistoryLemmas.{front_printed}
use Rattle.ufs_audit.proofs.law.a_legal_front_is_printed.Goals as goal

pub returns : goal.returns
returns c = front_printed

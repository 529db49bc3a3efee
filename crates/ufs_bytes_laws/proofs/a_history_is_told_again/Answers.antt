use Rattle.ufs_bytes_laws.proofs.EntryLemmas.{replied, blanked_same, goes_on_alike}
use Rattle.ufs_bytes_laws.proofs.HistoryLemmas.{legal_again, alike_again, ends_alike, whole_again}
use Rattle.ufs_bytes_laws.proofs.a_history_is_told_again.Goals as goal

pub returns-clause-replied : goal.returns-clause-replied
returns-clause-replied c = replied

pub returns-clause-entries : goal.returns-clause-entries
returns-clause-entries c = blanked_same

pub returns-clause-goes_on : goal.returns-clause-goes_on
returns-clause-goes_on c = goes_on_alike

pub returns-clause-legal_from : goal.returns-clause-legal_from
returns-clause-legal_from c = legal_again

pub returns-clause-alike : goal.returns-clause-alike
returns-clause-alike c = alike_again

pub returns-clause-ends : goal.returns-clause-ends
returns-clause-ends c = ends_alike

pub returns-clause-legal : goal.returns-clause-legal
returns-clause-legal c = whole_again

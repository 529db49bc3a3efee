use Rattle.ufs_caller.proofs.ByHints.{by_hints, no_names}
use Rattle.ufs_caller.proofs.laws.workers_get_what_goes_by_hints.Goals as goal

pub returns-clause-new : goal.returns-clause-new
returns-clause-new c = by_hints

pub returns-clause-sent_on : goal.returns-clause-sent_on
returns-clause-sent_on c = no_names

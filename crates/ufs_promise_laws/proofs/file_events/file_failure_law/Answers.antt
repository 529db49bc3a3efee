use Rattle.ufs_promise_laws.proofs.Failing.{failed_syncs_go_on}
use Rattle.ufs_promise_laws.proofs.file_events.file_failure_law.Goals as goal

pub returns : goal.returns
returns c = failed_syncs_go_on c.committing_law.ensures.written c.committing_law.ensures.stages c.committing_law.ensures.may c.standing_law.ensures.may c.committing_law.ensures.bytes

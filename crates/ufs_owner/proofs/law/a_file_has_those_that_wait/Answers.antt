use Rattle.ufs_owner.proofs.OwnerFacts.{has_waiting, waiting_keeps_owner}
use Rattle.ufs_owner.proofs.law.a_file_has_those_that_wait.Goals as goal

pub returns-clause-waiting : goal.returns-clause-waiting
returns-clause-waiting c = has_waiting

pub returns-clause-owner : goal.returns-clause-owner
returns-clause-owner c = waiting_keeps_owner

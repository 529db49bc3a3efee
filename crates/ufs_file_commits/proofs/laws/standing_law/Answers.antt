use Rattle.ufs_file_commits.proofs.Standing.{dirty_may, shows_as_committed, shows_the_file, stands_committed, stands_settled, stands_written}
use Rattle.ufs_file_commits.proofs.Served.{reads_served, stands_served}
use Rattle.ufs_file_commits.proofs.laws.standing_law.Goals as goal

pub returns-clause-may : goal.returns-clause-may
returns-clause-may c = dirty_may

pub returns-clause-written : goal.returns-clause-written
returns-clause-written c = stands_written

pub returns-clause-committed : goal.returns-clause-committed
returns-clause-committed c = stands_committed

pub returns-clause-settled : goal.returns-clause-settled
returns-clause-settled c = stands_settled

pub returns-clause-shown : goal.returns-clause-shown
returns-clause-shown c = shows_the_file

pub returns-clause-asked : goal.returns-clause-asked
returns-clause-asked c = shows_as_committed

pub returns-clause-served : goal.returns-clause-served
returns-clause-served c = stands_served

pub returns-clause-reads : goal.returns-clause-reads
returns-clause-reads c = reads_served

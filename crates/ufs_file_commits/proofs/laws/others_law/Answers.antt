use Rattle.ufs_file_commits.proofs.Others.{behind_barrier, behind_checkpoint, owns_behind_commit, stands_behind_commit, stands_behind_writes, stands_once_committed}
use Rattle.ufs_file_commits.proofs.laws.others_law.Goals as goal

pub returns-clause-barrier : goal.returns-clause-barrier
returns-clause-barrier c = behind_barrier

pub returns-clause-checkpoint : goal.returns-clause-checkpoint
returns-clause-checkpoint c = behind_checkpoint

pub returns-clause-writes : goal.returns-clause-writes
returns-clause-writes c = stands_behind_writes

pub returns-clause-commit : goal.returns-clause-commit
returns-clause-commit c = stands_behind_commit

pub returns-clause-own : goal.returns-clause-own
returns-clause-own c = owns_behind_commit

pub returns-clause-itself : goal.returns-clause-itself
returns-clause-itself c = stands_once_committed

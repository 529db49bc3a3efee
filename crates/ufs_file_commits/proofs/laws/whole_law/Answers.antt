use Rattle.ufs_file_commits.proofs.Wholes.{noted_as_whole, writes_are_whole}
use Rattle.ufs_file_commits.proofs.laws.whole_law.Goals as goal

pub returns-clause-writes : goal.returns-clause-writes
returns-clause-writes c = writes_are_whole

pub returns-clause-noted : goal.returns-clause-noted
returns-clause-noted c = noted_as_whole

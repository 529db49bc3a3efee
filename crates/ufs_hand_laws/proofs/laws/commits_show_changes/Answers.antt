use Rattle.ufs_hand_laws.proofs.Commits.{block_writes_show, file_commits_show, name_commits_show, unborn_are_fresh, fewer_show}
use Rattle.ufs_hand_laws.proofs.laws.commits_show_changes.Goals as goal

pub returns-clause-blocks : goal.returns-clause-blocks
returns-clause-blocks c = block_writes_show

pub returns-clause-file : goal.returns-clause-file
returns-clause-file c = file_commits_show

pub returns-clause-names : goal.returns-clause-names
returns-clause-names c = name_commits_show

pub returns-clause-fewer : goal.returns-clause-fewer
returns-clause-fewer c = fewer_show

pub returns-clause-unborn : goal.returns-clause-unborn
returns-clause-unborn c = unborn_are_fresh

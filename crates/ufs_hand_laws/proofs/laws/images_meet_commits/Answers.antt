use Rattle.ufs_hand_laws.proofs.Meets.{passages_may, file_commits_may, name_commits_may, failures_may, checkpoints_may}
use Rattle.ufs_hand_laws.proofs.laws.images_meet_commits.Goals as goal

pub returns-clause-passages : goal.returns-clause-passages
returns-clause-passages c = passages_may

pub returns-clause-file : goal.returns-clause-file
returns-clause-file c = file_commits_may

pub returns-clause-names : goal.returns-clause-names
returns-clause-names c = name_commits_may

pub returns-clause-failures : goal.returns-clause-failures
returns-clause-failures c = failures_may

pub returns-clause-checkpoints : goal.returns-clause-checkpoints
returns-clause-checkpoints c = checkpoints_may c.images_show_trees.ensures.same

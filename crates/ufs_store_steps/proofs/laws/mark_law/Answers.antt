use Rattle.ufs_store_steps.proofs.Marks.{file_commits_mark, failed_file_commits_mark, name_commits_mark, failed_name_commits_mark, checkpoints_mark, failed_checkpoints_mark}
use Rattle.ufs_store_steps.proofs.laws.mark_law.Goals as goal

pub returns-clause-commit : goal.returns-clause-commit
returns-clause-commit c = file_commits_mark c.args.geometry.now

pub returns-clause-failed : goal.returns-clause-failed
returns-clause-failed c = failed_file_commits_mark c.args.geometry.now

pub returns-clause-names : goal.returns-clause-names
returns-clause-names c = name_commits_mark c.args.geometry.now

pub returns-clause-failed_names : goal.returns-clause-failed_names
returns-clause-failed_names c = failed_name_commits_mark c.args.geometry.now

pub returns-clause-checkpoint : goal.returns-clause-checkpoint
returns-clause-checkpoint c = checkpoints_mark c.images_show_trees.ensures.same c.args.geometry.now

pub returns-clause-failed_checkpoint : goal.returns-clause-failed_checkpoint
returns-clause-failed_checkpoint c = failed_checkpoints_mark c.images_show_trees.ensures.same c.args.geometry.now

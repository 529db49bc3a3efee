use Rattle.ufs_store_steps.proofs.FileSteps.{files_commit_bytes, file_commits_may_go, file_commits_go}
use Rattle.ufs_store_steps.proofs.laws.file_step_law.Goals as goal

pub returns-clause-bytes : goal.returns-clause-bytes
returns-clause-bytes c = files_commit_bytes c.args.geometry.now

pub returns-clause-tried : goal.returns-clause-tried
returns-clause-tried c = file_commits_may_go c.args.geometry.now

pub returns-clause-done : goal.returns-clause-done
returns-clause-done c = file_commits_go c.args.geometry.now

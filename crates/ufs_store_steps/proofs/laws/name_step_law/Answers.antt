use Rattle.ufs_store_steps.proofs.NameSteps.{name_commits_may_go, name_commits_go}
use Rattle.ufs_store_steps.proofs.laws.name_step_law.Goals as goal

pub returns-clause-tried : goal.returns-clause-tried
returns-clause-tried c = name_commits_may_go c.args.geometry.now

pub returns-clause-done : goal.returns-clause-done
returns-clause-done c = name_commits_go c.args.geometry.now

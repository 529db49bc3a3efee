use Rattle.ufs_joint.proofs.NamesTurning.{names_commits_go_on, names_commits_may_end, names_failures_go_on, names_failures_may_end}
use Rattle.ufs_joint.proofs.laws.a_commit_of_names_ends.Goals as goal

pub returns : goal.returns
returns c = record { may = names_commits_may_end; on = names_commits_go_on; failed = names_failures_may_end; failed_on = names_failures_go_on }

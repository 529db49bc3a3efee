use Rattle.ufs_crash_laws.proofs.StepLemmas.{commits_shown, name_commits_shown, commits_explained}
use Rattle.ufs_crash_laws.proofs.laws.a_commit_is_explained_meanwhile.Goals as goal

pub returns : goal.returns
returns c = record { file = commits_shown; names = name_commits_shown; meanwhile = commits_explained c.a_request_keeps_the_tree.ensures }

use Rattle.ufs_file_commits.proofs.Committing.{commits_show_all, done_is_kept, stages_are_kept, writes_are_kept}
use Rattle.ufs_file_commits.proofs.Fitting.{files_may_commit_next}
use Rattle.ufs_file_commits.proofs.Histories.{goes_by_entries, has_tree_bytes}
use Rattle.ufs_file_commits.proofs.Owned.{owns_committed, owns_served}
use Rattle.ufs_file_commits.proofs.Settling.{barriers_show_all, counts_go_on}
use Rattle.ufs_file_commits.proofs.laws.committing_law.Goals as goal

pub returns-clause-may : goal.returns-clause-may
returns-clause-may c = files_may_commit_next

pub returns-clause-written : goal.returns-clause-written
returns-clause-written c = writes_are_kept

pub returns-clause-shown : goal.returns-clause-shown
returns-clause-shown c = commits_show_all

pub returns-clause-own : goal.returns-clause-own
returns-clause-own c = owns_committed

pub returns-clause-stages : goal.returns-clause-stages
returns-clause-stages c = stages_are_kept c.a_request_keeps_the_tree.ensures

pub returns-clause-done : goal.returns-clause-done
returns-clause-done c = done_is_kept c.a_request_keeps_the_tree.ensures

pub returns-clause-empty : goal.returns-clause-empty
returns-clause-empty c = barriers_show_all c.a_request_keeps_the_tree.ensures

pub returns-clause-counts : goal.returns-clause-counts
returns-clause-counts c = counts_go_on

pub returns-clause-served : goal.returns-clause-served
returns-clause-served c = owns_served

pub returns-clause-entry : goal.returns-clause-entry
returns-clause-entry c = goes_by_entries c.a_history_goes_by_its_changes.ensures.bytes

pub returns-clause-bytes : goal.returns-clause-bytes
returns-clause-bytes c = has_tree_bytes c.a_history_goes_by_its_changes.ensures.bytes

use Rattle.ufs_hand_laws.proofs.Meets.{nothing_is_done, nothing_is_written, writes_are_done, file_commits_are_done, name_commits_are_done}
use Rattle.ufs_hand_laws.proofs.laws.calls_that_fail_may_have_done.Goals as goal

pub returns-clause-nothing : goal.returns-clause-nothing
returns-clause-nothing c = nothing_is_done

pub returns-clause-unwritten : goal.returns-clause-unwritten
returns-clause-unwritten c = nothing_is_written

pub returns-clause-write : goal.returns-clause-write
returns-clause-write c = writes_are_done

pub returns-clause-file : goal.returns-clause-file
returns-clause-file c = file_commits_are_done

pub returns-clause-names : goal.returns-clause-names
returns-clause-names c = name_commits_are_done

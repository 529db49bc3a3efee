use Rattle.ufs_promise_laws.proofs.FileCommits.{file_committed_stored}
use Rattle.ufs_promise_laws.proofs.FileSettles.{file_settled_stored}
use Rattle.ufs_promise_laws.proofs.laws.file_commit_law.Goals as goal

pub returns-clause-committed : goal.returns-clause-committed
returns-clause-committed c s between records l unassigned start history counts p f has here delta fits there st =
    file_committed_stored s between records l unassigned start history counts p f has here delta fits there st
    c.committing_law.ensures.may c.committing_law.ensures.done c.committing_law.ensures.bytes c.committing_law.ensures.own c.others_law.ensures.commit c.others_law.ensures.own c.others_law.ensures.itself

pub returns-clause-settled : goal.returns-clause-settled
returns-clause-settled c s l unassigned start history counts p f has here bytes_alone there st =
    file_settled_stored s l unassigned start history counts p f has here bytes_alone there st
    c.committing_law.ensures.empty c.committing_law.ensures.bytes c.committing_law.ensures.own c.standing_law.ensures.settled

use Rattle.ufs_promise_laws.proofs.NamesLaw.{names_committed, names_committing, names_may}
use Rattle.ufs_promise_laws.proofs.laws.names_commit_law.Goals as goal

pub returns-clause-may : goal.returns-clause-may
returns-clause-may c l unassigned start history counts p number records names covers fits st =
    names_may c.args.geometry.now c.change_law.ensures.may l unassigned start history counts p number records names st covers fits

pub returns-clause-committing : goal.returns-clause-committing
returns-clause-committing c l unassigned start history counts p number records names st =
    names_committing c.args.geometry.now c.promise_law.ensures.settled c.promise_law.ensures.committing c.a_history_goes_by_its_changes.ensures.names c.names_go_on_law.ensures c.files_law.ensures.stands
    l unassigned start history counts p number records names st

pub returns-clause-committed : goal.returns-clause-committed
returns-clause-committed c l unassigned start history counts p number records names st =
    names_committed c.args.geometry.now c.promise_law.ensures.settled c.promise_law.ensures.committed c.a_history_goes_by_its_changes.ensures.names c.names_go_on_law.ensures c.files_law.ensures.stands
    c.change_law.ensures.told c.files_law.ensures.others c.files_law.ensures.born l unassigned start history counts p number records names st

use Rattle.ufs_names_commit.proofs.Committing.{commits, names_explained, names_may_leave, stops, waits}
use Rattle.ufs_names_commit.proofs.There.{there}
use Rattle.ufs_names_commit.proofs.laws.names_law.Goals as goal

pub returns-clause-commit : goal.returns-clause-commit
returns-clause-commit c old new start history p known records beside noted table commit h =
    commits c.args.geometry.now old new start history p known beside h records noted table c.form_law.ensures.sound c.names_commit_law.ensures.may
    c.a_history_goes_by_its_changes.ensures.names c.ready_law.ensures.checkpoint c.names_commit_law.ensures.committed commit

pub returns-clause-stop : goal.returns-clause-stop
returns-clause-stop c old new start history p known records beside noted table stop leaves h =
    stops c.args.geometry.now old new start history p known beside h records noted table c.form_law.ensures.sound c.names_commit_law.ensures.may c.ready_law.ensures.checkpoint c.names_commit_law.ensures.committing
    c.stopping_law.ensures.commit stop leaves

pub returns-clause-memory : goal.returns-clause-memory
returns-clause-memory c old new start history p known beside leaves h = waits c.args.geometry.now old new start history p known beside h c.ready_law.ensures.checkpoint leaves

pub returns-clause-nothing : goal.returns-clause-nothing
returns-clause-nothing c s start history p known same none table go =
    there c.args.geometry.now c.a_history_goes_by_its_changes.ensures.names c.names_go_on_law.ensures c.files_law.ensures.stands c.promise_law.ensures.commit s start history p known same none table go

pub returns-clause-may_leave : goal.returns-clause-may_leave
returns-clause-may_leave c =
    names_may_leave c.args.geometry.now c.form_law.ensures.sound c.names_commit_law.ensures.may c.ready_law.ensures.checkpoint c.names_commit_law.ensures.committing c.always_law.ensures.commit_image

pub returns-clause-moments : goal.returns-clause-moments
returns-clause-moments c = names_explained c.args.geometry.now (returns-clause-may_leave c)

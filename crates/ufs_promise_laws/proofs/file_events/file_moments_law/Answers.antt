use Rattle.ufs_promise_laws.proofs.Meanwhile.{may_leave, syncs_explained}
use Rattle.ufs_promise_laws.proofs.file_events.file_moments_law.Goals as goal

pub returns-clause-allowed : goal.returns-clause-allowed
returns-clause-allowed c s start history p f form at live fits names =
    may_leave c.args.geometry.now s start history p f form at live fits names c.committing_law.ensures.written c.committing_law.ensures.stages c.committing_law.ensures.may c.standing_law.ensures.may c.committing_law.ensures.bytes
    c.always_law.ensures.image

pub returns-clause-moments : goal.returns-clause-moments
returns-clause-moments c = syncs_explained c.args.geometry.now (returns-clause-allowed c)

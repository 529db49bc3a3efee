use Rattle.ufs_joint.proofs.Meanwhile.{files_explained, files_may_leave}
use Rattle.ufs_joint.proofs.events.file_moments_law.Goals as goal

pub returns-clause-allowed : goal.returns-clause-allowed
returns-clause-allowed c =
    files_may_leave c.args.geometry.now c.committing_law.ensures.written c.committing_law.ensures.stages c.committing_law.ensures.may c.standing_law.ensures.may c.committing_law.ensures.bytes c.always_law.ensures.image

pub returns-clause-moments : goal.returns-clause-moments
returns-clause-moments c = files_explained c.args.geometry.now (returns-clause-allowed c)

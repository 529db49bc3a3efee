use Rattle.ufs_promise_laws.proofs.Always.{checkpoint_explained, checkpoint_image, commit_explained, commit_image, image_explained, ledger_explained, rest_explained, stages_explained}
use Rattle.ufs_promise_laws.proofs.laws.always_law.Goals as goal

pub returns-clause-image : goal.returns-clause-image
returns-clause-image c = image_explained c.args.geometry.now c.opening_law.ensures.ledger c.proper_law.ensures

pub returns-clause-checkpoint_image : goal.returns-clause-checkpoint_image
returns-clause-checkpoint_image c = checkpoint_image c.args.geometry.now (returns-clause-image c) c.promise_law.ensures.beginning

pub returns-clause-commit_image : goal.returns-clause-commit_image
returns-clause-commit_image c = commit_image c.args.geometry.now (returns-clause-image c) c.promise_law.ensures.beginning c.promise_law.ensures.emptied

pub returns-clause-ledger : goal.returns-clause-ledger
returns-clause-ledger c = ledger_explained c.args.geometry.now (returns-clause-image c)

pub returns-clause-stages : goal.returns-clause-stages
returns-clause-stages c = stages_explained c.args.geometry.now (returns-clause-image c)

pub returns-clause-checkpoint : goal.returns-clause-checkpoint
returns-clause-checkpoint c = checkpoint_explained c.args.geometry.now (returns-clause-checkpoint_image c)

pub returns-clause-commit : goal.returns-clause-commit
returns-clause-commit c = commit_explained c.args.geometry.now (returns-clause-commit_image c)

pub returns-clause-rest : goal.returns-clause-rest
returns-clause-rest c = rest_explained c.args.geometry.now (returns-clause-image c)

use Rattle.std.proofs.Common.{◌≤◌, ap, sym, subst, ◌∙◌}
use Rattle.ufs_joint.specs.Cells.{View, given_of, kept_of}
use Rattle.ufs_model.specs.declared.data.PartName.TheVariants.{File}
use Rattle.ufs_msg.specs.Requests.{HasClientAlone}
use Rattle.ufs_serving.proofs.Lending.{client_back, later_left, later_right, pool_back}
use Rattle.ufs_serving.proofs.pool.take_pool.Goals as goal
use Rattle.ufs_joint.specs.FirstHand.{HasPoolAlone}

pub returns-clause-client : goal.returns-clause-client
returns-clause-client g c = λ client part pool came.
    subst (HasClientAlone client part) (sym (c.replace.ensures.value ∙ c.split-own.ensures.kept ∙ ap (λ (v : View). kept_of (File c.args.number) v) c.join.ensures))
    (client_back c.args.right.now c.args.guest c.args.number pool client part c.requires.none came)

pub returns-clause-pool : goal.returns-clause-pool
returns-clause-pool g c = λ client part pool came.
    subst (HasPoolAlone c.args.number pool) (sym (c.replace.ensures.after ∙ c.split-own.ensures.given ∙ ap (λ (v : View). given_of (File c.args.number) v) c.join.ensures))
    (pool_back c.args.right.now c.args.guest c.args.number pool client part c.requires.none came)

pub returns-clause-later : goal.returns-clause-later
returns-clause-later g c =
    subst (λ (v : View). c.args.guest.seen ≤ v.seen) (sym (c.replace.ensures.value ∙ c.split-own.ensures.kept ∙ ap (λ (v : View). kept_of (File c.args.number) v) c.join.ensures))
    (later_right c.args.right.now.seen c.args.guest.seen)

pub returns-clause-own : goal.returns-clause-own
returns-clause-own g c =
    subst (λ (v : View). c.args.right.now.seen ≤ v.seen) (sym (c.replace.ensures.value ∙ c.split-own.ensures.kept ∙ ap (λ (v : View). kept_of (File c.args.number) v) c.join.ensures))
    (later_left c.args.right.now.seen c.args.guest.seen)

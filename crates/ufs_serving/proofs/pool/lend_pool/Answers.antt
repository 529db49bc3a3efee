use Rattle.std.proofs.Common.{◌≤◌, ap, sym, subst, ◌∙◌}
use Rattle.ufs_held.specs.Asking.{IsGuest}
use Rattle.ufs_joint.specs.Cells.{View, given_of, kept_of}
use Rattle.ufs_model.specs.declared.data.PartName.TheVariants.{Names}
use Rattle.ufs_serving.specs.Pools.{HasNone}
use Rattle.ufs_serving.proofs.Lending.{later_right, lent, nothing}
use Rattle.ufs_serving.proofs.pool.lend_pool.Goals as goal

pub returns-clause-guest : goal.returns-clause-guest
returns-clause-guest g c = λ n pool client part mine came.
    subst (IsGuest client part n pool) (sym (c.replace.ensures.value ∙ c.split-none.ensures.kept ∙ ap (λ (v : View). kept_of Names v) c.join.ensures))
    (lent c.args.right.now c.args.client n pool client part mine came)

pub returns-clause-none : goal.returns-clause-none
returns-clause-none g c =
    let p = c.requires.pool in
    let a = c.requires.client in
    subst HasNone (sym (c.replace.ensures.after ∙ c.split-none.ensures.given ∙ ap (λ (v : View). given_of Names v) c.join.ensures))
    (nothing c.args.right.now c.args.client p.0 p.1 a.0 a.1 p.2 a.2)

pub returns-clause-later : goal.returns-clause-later
returns-clause-later g c =
    subst (λ (v : View). c.args.client.seen ≤ v.seen) (sym (c.replace.ensures.value ∙ c.split-none.ensures.kept ∙ ap (λ (v : View). kept_of Names v) c.join.ensures))
    (later_right c.args.right.now.seen c.args.client.seen)

pub returns-clause-kept : goal.returns-clause-kept
returns-clause-kept g c =
    subst (λ (v : View). c.args.client.seen ≤ v.seen) (sym (c.replace.ensures.after ∙ c.split-none.ensures.given ∙ ap (λ (v : View). given_of Names v) c.join.ensures))
    (later_right c.args.right.now.seen c.args.client.seen)

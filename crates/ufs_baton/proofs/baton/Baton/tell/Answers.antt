use Rattle.std.proofs.Common.{ℕ, ap, refl, sym, subst, ◌∙◌}
use Rattle.ufs_joint.specs.Cells.{View, both_of, given_of}
use Rattle.ufs_model.specs.declared.data.PartName.TheVariants.{Store}
use Rattle.ufs_baton.specs.Baton.{HasNothing, IsToldOf}
use Rattle.ufs_baton.proofs.Hands.{kept_whole, told_of}
use Rattle.ufs_baton.proofs.baton.Baton.tell.Goals as goal

pub invariant_of-self : goal.invariant_of-self
invariant_of-self g c =
    let i = c.self.invariant in
    subst HasNothing (sym (c.split-none.ensures.kept ∙ kept_whole c.self.inside.hand i.store)) i

pub returns-clause-same : goal.returns-clause-same
returns-clause-same g c = ap (λ (v : View). v.seen) c.split-none.ensures.kept ∙ c.self.view_is

pub returns-clause-told : goal.returns-clause-told
returns-clause-told g c =
    let hand = c.args.hand.now in
    subst (λ (w : View). IsToldOf c.args.self.now hand w) (sym (c.join.ensures ∙ ap (both_of hand) c.split-none.ensures.given))
    (subst (λ (n : ℕ). IsToldOf n hand (both_of hand (given_of Store c.self.inside.hand))) c.self.view_is (told_of hand c.self.inside.hand c.self.invariant))

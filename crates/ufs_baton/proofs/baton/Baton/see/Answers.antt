use Rattle.std.proofs.Common.{◌≤◌, ℕ, ap, sym, subst, ◌∙◌}
use Rattle.ufs_joint.specs.Cells.{View, both_of}
use Rattle.ufs_baton.specs.Baton.{HasNothing}
use Rattle.ufs_baton.proofs.Hands.{both_nothing, kept_whole, later_left, later_right}
use Rattle.ufs_baton.proofs.baton.Baton.see.Goals as goal

pub invariant_of-self : goal.invariant_of-self
invariant_of-self g c = subst HasNothing (sym (c.join.ensures ∙ ap (both_of c.self.inside.hand) c.split-none.ensures.given)) (both_nothing c.self.inside.hand c.args.hand.now c.self.invariant c.requires)

pub returns-clause-seen : goal.returns-clause-seen
returns-clause-seen g c =
    subst (λ (v : View). c.args.hand.now.seen ≤ v.seen) (sym (c.join.ensures ∙ ap (both_of c.self.inside.hand) c.split-none.ensures.given)) (later_right c.self.inside.hand.seen c.args.hand.now.seen)

pub returns-clause-more : goal.returns-clause-more
returns-clause-more g c =
    subst (λ (n : ℕ). n ≤ c.join.new.self.seen) c.self.view_is
    (subst (λ (v : View). c.self.inside.hand.seen ≤ v.seen) (sym (c.join.ensures ∙ ap (both_of c.self.inside.hand) c.split-none.ensures.given)) (later_left c.self.inside.hand.seen c.args.hand.now.seen))

pub returns-clause-same : goal.returns-clause-same
returns-clause-same g c = c.split-none.ensures.kept ∙ kept_whole c.args.hand.now c.requires

use Rattle.std.proofs.Common.{◌≤◌, ap, sym, subst, ◌∙◌}
use Rattle.ufs_joint.specs.Cells.{View}
use Rattle.ufs_msg.specs.Answers.{IsTold, Told}
use Rattle.ufs_baton.proofs.Hands.{told_as}
use Rattle.ufs_baton.proofs.baton.Baton.follow_served.Goals as goal

pub see-requires : goal.see-requires
see-requires g c = let t = c.into_parts-hand.ensures.told in let a = t.alone in a.store

pub new-requires : goal.new-requires
new-requires g c =
    let r = c.into_parts-hand.result in
    subst (λ (v : View). IsTold g.N.Naming.start r.1 r.2 r.3 r.4 v) (sym c.see.ensures.same) c.into_parts-hand.ensures.told

pub returns-clause-same : goal.returns-clause-same
returns-clause-same g c =
    let r = c.into_parts-hand.result in
    c.new.ensures ∙ ap (λ (v : View). told_as v r.1 r.2 r.3 r.4) c.see.ensures.same ∙ c.into_parts-hand.ensures.same

pub returns-clause-seen : goal.returns-clause-seen
returns-clause-seen g c = subst (λ (t : Told). t.hand.seen ≤ c.see.new.self) c.into_parts-hand.ensures.same c.see.ensures.seen

use Rattle.std.proofs.Common.{ap, refl, sym, ◌∙◌}
use Rattle.ufs_joint.specs.Cells.{View, both_of}
use Rattle.ufs_gathered.proofs.Joined.{one_more}
use Rattle.ufs_gathered.proofs.gathering.gather_hands.Goals as goal

pub loop-other-init : goal.loop-other-init
loop-other-init g c = refl

pub loop-other-preserved : goal.loop-other-preserved
loop-other-preserved g c =
    let l = c.loop-other in
    let other : View = c.in-Some.other in
    c.join.ensures ∙ ap (λ (v : View). both_of v other) l.invariant ∙ sym (one_more c.args.hand.now l.yielded other)

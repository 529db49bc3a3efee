use Rattle.std.proofs.Common.{ap, sym, subst, ◌∙◌}
use Rattle.ufs_joint.specs.Cells.{View}
use Rattle.ufs_baton.specs.Baton.{HasNothing}
use Rattle.ufs_baton.proofs.Hands.{given_nothing, kept_whole}
use Rattle.ufs_baton.proofs.baton.Baton.of.Goals as goal

pub invariant_of-result : goal.invariant_of-result
invariant_of-result g c = subst HasNothing (sym c.split.ensures.given) (given_nothing c.args.hand.now c.requires)

pub returns-clause-seen : goal.returns-clause-seen
returns-clause-seen g c = ap (λ (v : View). v.seen) c.split.ensures.given

pub returns-clause-same : goal.returns-clause-same
returns-clause-same g c = c.split.ensures.kept ∙ kept_whole c.args.hand.now c.requires

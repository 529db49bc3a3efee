use Rattle.std.proofs.Common.{ℕ, sym, subst, ap, ◌∙◌}
use Rattle.ufs_joint.specs.Cells.{Start, View}
use Rattle.ufs_joint.specs.Draws.{Leaves, drawn}
use Rattle.ufs_joint.specs.Rule.{MayDrawAny}
use Rattle.ufs_joint_tests.specs.Small.{excused}
use Rattle.ufs_joint_tests.proofs.Small.{draws}
use Rattle.ufs_msg_tests.proofs.steps.excuse.Goals as goal

pub draw-requires : goal.draw-requires
draw-requires g c = subst (λ (x : Start × View × (ℕ → Leaves)). MayDrawAny x.0 x.1 excused x.2)
    (λ j. (sym c.requires.start j, sym c.requires.view.1 j, sym c.requires.leaves j)) (draws c.args.names.now (g.D.Door.store c.args.store.now) c.requires.view.0)

pub returns : goal.returns
returns g c = λ tickets is. c.draw.ensures.cells ∙ (λ j. drawn c.draw.result excused (c.requires.leaves j c.draw.result) (is j))

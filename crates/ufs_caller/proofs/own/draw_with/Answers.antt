use Rattle.std.proofs.Common.{ℕ, sym, subst, ap, ◌∙◌}
use Rattle.ufs_joint.specs.Draws.{Leaves, MayDraw, drawn}
use Rattle.ufs_caller.proofs.own.draw_with.Goals as goal

pub draw-requires : goal.draw-requires
draw-requires g c = λ n.
    let k = g.N.Naming.start in
    subst (λ (l : ℕ → Leaves). MayDraw k.geometry k.is_visible c.args.hand.now c.args.fresh.now (l n) n) (sym c.requires.leaves) (c.requires.may n)

pub returns-clause-cells : goal.returns-clause-cells
returns-clause-cells g c = c.draw.ensures.cells ∙ ap (λ (l : ℕ → Leaves). drawn c.draw.result c.args.fresh.now (l c.draw.result) c.args.hand.now) c.requires.leaves

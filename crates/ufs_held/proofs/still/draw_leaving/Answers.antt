use Rattle.std.proofs.Common.{ℕ, sym, subst}
use Rattle.ufs_joint.specs.Draws.{Leaves, MayDraw}
use Rattle.ufs_held.proofs.still.draw_leaving.Goals as goal

pub draw-requires : goal.draw-requires
draw-requires g c = λ n. subst (λ (l : ℕ → Leaves). MayDraw g.N.Naming.start.geometry g.N.Naming.start.is_visible c.args.hand.now c.args.fresh.now (l n) n) (sym c.requires.leaves) (c.requires.may n)

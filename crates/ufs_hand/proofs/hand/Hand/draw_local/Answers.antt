use Rattle.std.proofs.Common.{[], ◌∷◌, sym, subst}
use Rattle.ufs_hand_laws.specs.Draws.{MayDraw}
use Rattle.ufs_hand_laws.specs.Parts.{View}
use Rattle.ufs_hand_laws.specs.Rule.{word_at}
use Rattle.ufs_hand_laws.proofs.LeasedDraws.{looked_may_draw}
use Rattle.ufs_hand.proofs.hand.Hand.draw_local.Goals as goal

pub exchange_as-found-requires-clause-may : goal.exchange_as-found-requires-clause-may
exchange_as-found-requires-clause-may g c =
    subst (λ (v : View). MayDraw c.args.fresh.now v g.L.Leaving.leaves (c.args.lease.now ∷ [])) (sym c.read-word.ensures.parts)
    (looked_may_draw (word_at c.read-word.result) _ c.args.fresh.now g.L.Leaving.leaves (c.args.lease.now ∷ []) c.read-word.ensures.seen.1 c.requires)

use Rattle.std.proofs.Common.{[], ◌∷◌, ◌∙◌, sym, subst, arith}
use Rattle.ufs_hand_laws.specs.ByImages.{by_images}
use Rattle.ufs_hand_laws.specs.Draws.{MayDraw}
use Rattle.ufs_hand_laws.proofs.LeasedDraws.{local_keeps}
use Rattle.ufs_hand.proofs.hand.Hand.exchange_as.Goals as goal

pub compare_exchange-requires : goal.compare_exchange-requires
compare_exchange-requires g c =
    let i = c.self.invariant in
    let t = c.table.invariant in
    let w = t.1 in
    let may : MayDraw c.args.fresh.now c.self.inside.seat.me.0 g.L.Leaving.leaves (c.args.lease.now ∷ []) = rw c.self.view_is c.requires.may in (
      i.0 ∙ sym t.0,
      omega arith,
      local_keeps c.a_request_keeps_the_tree.ensures c.a_request_is_local.ensures c.a_request_makes_one_file_at_most.ensures by_images _ _ _ _ _ _ _ _ (subst (λ f. MayDraw f c.self.inside.seat.me.0 g.L.Leaving.leaves (c.args.lease.now ∷ [])) c.requires.fresh may) c.requires.live Rattle.std.proofs.Common.refl _,
    )

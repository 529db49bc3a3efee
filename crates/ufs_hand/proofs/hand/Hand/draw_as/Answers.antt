use Rattle.std.proofs.Common.{[], ◌+◌, ◌%◌, ◌^◌, ◌∙◌, sym, subst, arith}
use Rattle.atomic_table.specs.Table.{Allows}
use Rattle.ufs_hand_laws.specs.ByImages.{by_images}
use Rattle.ufs_hand_laws.specs.Draws.{MayDraw}
use Rattle.ufs_hand_laws.specs.Parts.{Start}
use Rattle.ufs_hand_laws.specs.Rule.{Drew, IsRuled}
use Rattle.ufs_hand_laws.proofs.Ruling.{draw_keeps}
use Rattle.ufs_hand.proofs.hand.Hand.draw_as.Goals as goal

pub fetch_add-word-requires : goal.fetch_add-word-requires
fetch_add-word-requires g c =
    let i = c.self.invariant in
    let t = c.table.invariant in
    let w = t.1 in
    let may : MayDraw g.F.Drawing.fresh c.self.inside.seat.me.0 g.L.Leaving.leaves [] = rw c.self.view_is c.requires in
    let k = c.table.inside.table.shared.key.start in
    let me = c.self.inside.seat.me in (
      i.0 ∙ sym t.0,
      omega arith,
      subst (λ (named : Start). Allows (IsRuled by_images k) c.table.inside.table.shared.table_id.slots c.self.inside.seat.id me 0 (λ n. (n + 1) % 2 ^ 64) (Drew named g.F.Drawing.fresh g.L.Leaving.leaves me))
          t.3
          (draw_keeps by_images _ c.a_request_keeps_the_tree.ensures c.a_request_is_local.ensures c.a_request_makes_one_file_at_most.ensures _ _ _ _ _ may),
    )

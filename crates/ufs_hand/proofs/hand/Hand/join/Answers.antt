use Rattle.std.proofs.Common.{◌∙◌, sym, arith}
use Rattle.ufs_hand_laws.specs.ByImages.{by_images}
use Rattle.ufs_hand_laws.proofs.Ruling.{join_keeps}
use Rattle.ufs_hand.proofs.hand.Hand.join.Goals as goal

pub join_seat-requires : goal.join_seat-requires
join_seat-requires g c =
    let i = c.self.invariant in
    let o = c.other.invariant in
    let t = c.table.invariant in
    let w = t.1 in
    (i.0 ∙ sym t.0, o.0 ∙ sym t.0, o.1, omega arith, join_keeps by_images _ _ _ _ _)

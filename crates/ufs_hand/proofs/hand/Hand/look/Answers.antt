use Rattle.std.proofs.Common.{◌∙◌, sym, arith}
use Rattle.ufs_hand_laws.specs.ByImages.{by_images}
use Rattle.ufs_hand_laws.proofs.Ruling.{look_keeps}
use Rattle.ufs_hand.proofs.hand.Hand.look.Goals as goal

pub load-word-requires : goal.load-word-requires
load-word-requires g c =
    let i = c.self.invariant in
    let t = c.table.invariant in
    let w = t.1 in
    (i.0 ∙ sym t.0, omega arith, look_keeps by_images _ _ _ _)

use Rattle.std.proofs.Common.{arith}
use Rattle.ufs_hand_laws.specs.Whole.{HoldsAll}
use Rattle.ufs_hand.proofs.Ends.{at_close}
use Rattle.ufs_hand.proofs.hand.Hand.close.Goals as goal

pub free-requires : goal.free-requires
free-requires g c = λ k l. let n = c.close_with-closed.ensures.counts.1 in let t = c.table.invariant.2 in absurd (omega arith)

pub returns : goal.returns
returns g c =
    let start = c.table.invariant.3 in
    let all : HoldsAll c.table.inside.table.shared.key.start c.self.inside.seat.me.0 = rw (c.self.view_is, start) c.requires in
    let whole = at_close c.a_request_keeps_the_tree.ensures _ _ _ _ _ _ c.close_with-closed.ensures.values.2 all c.word-word.ensures in
    rw (← c.self.view_is, ← start) whole

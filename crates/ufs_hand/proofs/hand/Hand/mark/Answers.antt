use Rattle.std.proofs.Common.{◌∙◌, sym, subst, arith}
use Rattle.atomic_table.specs.Table.{Allows}
use Rattle.ufs_hand_laws.specs.ByImages.{by_images}
use Rattle.ufs_hand_laws.specs.Parts.{Start}
use Rattle.ufs_hand_laws.specs.Rule.{IsRuled, Marked}
use Rattle.ufs_hand.specs.Session.{IsEvent}
use Rattle.ufs_hand.proofs.Steps.{event_keeps}
use Rattle.ufs_hand.proofs.hand.Hand.mark.Goals as goal

pub load-requires : goal.load-requires
load-requires g c =
    let i = c.self.invariant in
    let t = c.table.invariant in
    let w = t.1 in
    let may : IsEvent c.table.inside.table.shared.key.start c.self.inside.seat.me.0 g.E.Event.leaves = rw (c.self.view_is, t.3) c.requires in
    let k = c.table.inside.table.shared.key.start in
    let me = c.self.inside.seat.me in (
      i.0 ∙ sym t.0,
      omega arith,
      subst (λ (named : Start). Allows (IsRuled by_images k) c.table.inside.table.shared.table_id.slots c.self.inside.seat.id me 0 (λ n. n) (Marked named g.E.Event.leaves me)) t.3 (event_keeps c.a_request_keeps_the_tree.ensures _ _ _ _ _ may),
    )

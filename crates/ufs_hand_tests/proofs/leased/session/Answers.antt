use Rattle.std.proofs.Common.{[], ◌∷◌, ◌%◌, sym, subst}
use Rattle.ufs_model.specs.declared.data.Lease.{Lease}
use Rattle.ufs_hand_laws.specs.declared.fresh.Fresh.{Fresh}
use Rattle.ufs_hand_laws.specs.Draws.{MayDraw}
use Rattle.ufs_hand_laws.specs.FileSession.{small_disk, open_leaves}
use Rattle.ufs_hand_laws.specs.Parts.{Start, View}
use Rattle.ufs_hand_laws.specs.Rule.{clock_step}
use Rattle.ufs_hand_laws.specs.Whole.{HoldsAll}
use Rattle.ufs_hand.specs.Session.{DrewLocal, first_view, IsEvent}
use Rattle.ufs_hand_tests.specs.Leased.{open_asked, read_leaves}
use Rattle.ufs_hand_tests.proofs.LeasedSteps.{asks, may_open, may_read, ends}
use Rattle.ufs_hand_tests.proofs.leased.session.Goals as goal

pub mark-asked-requires : goal.mark-asked-requires
mark-asked-requires g c = subst (λ (v : View). IsEvent g.N.Naming.start v open_asked) (sym c.named-table.ensures) (subst (λ (k : Start). IsEvent k (first_view k) open_asked) (sym c.requires.start) asks)

pub draw-ticket-requires : goal.draw-ticket-requires
draw-ticket-requires g c =
    subst (λ (x : Fresh × View). MayDraw x.0 x.1 (open_leaves small_disk) []) (λ j. (sym c.requires.open j, sym c.mark-asked.ensures.parts j)) (may_open (c.mark-asked.result % clock_step))

pub draw_local-drawn-requires : goal.draw_local-drawn-requires
draw_local-drawn-requires g c =
    let n = c.mark-asked.result % clock_step in
    let at = c.ask.ensures in
    subst (λ (x : Fresh × View × Lease). MayDraw x.0 x.1 read_leaves (x.2 ∷ [])) (λ j. (sym c.requires.read j, sym at.1 j, sym c.requires.lease j)) (may_read n c.draw-ticket.result at.0)

pub close-requires : goal.close-requires
close-requires g c =
    let n = c.mark-asked.result % clock_step in
    let at = c.ask.ensures in
    let drew = subst (λ (x : Fresh × View × Lease). DrewLocal x.2.until x.0 read_leaves x.1 c.draw_local-drawn.result c.draw_local-drawn.new.self) (λ j. (c.requires.read j, at.1 j, c.requires.lease j)) c.draw_local-drawn.ensures in
    subst (λ (k : Start). HoldsAll k c.draw_local-drawn.new.self) (sym c.requires.start) (ends n c.draw-ticket.result at.0 c.draw_local-drawn.result c.draw_local-drawn.new.self drew)

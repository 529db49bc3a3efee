use Rattle.std.proofs.Common.{◌≡◌, [], inr, sym, ap, ◌∙◌, subst}
use Rattle.std.specs.Prelude.{◌%◌}
use Rattle.ufs_model.specs.declared.data.PartName.TheVariants.{Client, File}
use Rattle.ufs_hand_laws.specs.Clock.{looked, ticked}
use Rattle.ufs_hand_laws.specs.Draws.{MayDraw, drawn}
use Rattle.ufs_hand_laws.specs.First.{new_names, primary_pool}
use Rattle.ufs_hand_laws.specs.Parts.{Start, View, kept_of, given_of, both_of}
use Rattle.ufs_hand_laws.specs.Rule.{clock_step, MayTick}
use Rattle.ufs_hand_laws.specs.Whole.{HoldsAll}
use Rattle.ufs_hand.specs.Session.{first_view, word_of, HoldsPool, IsEvent}
use Rattle.ufs_hand_tests.specs.Small.{small, asked}
use Rattle.ufs_hand_tests.proofs.Small.{asks, has_pool, left, fresh, joined, draws, ticks, at_end, has_all}
use Rattle.ufs_hand_tests.proofs.session.session.Goals as goal

pub mark-requires : goal.mark-requires
mark-requires g c = subst (λ (v : View). IsEvent g.N.Naming.start v asked) (sym c.named-table.ensures) (subst (λ (k : Start). IsEvent k (first_view k) asked) (sym c.requires.small) asks)

pub split-pool-requires : goal.split-pool-requires
split-pool-requires g c =
    let n = c.mark.result % clock_step in
    inr (subst (HoldsPool (File primary_pool)) (sym (c.join.ensures ∙ (λ j. both_of (c.split-client.ensures.kept j) (c.split-client.ensures.given j)) ∙ ap (λ (v : View). both_of (kept_of (Client 0) v) (given_of (Client 0) v)) c.mark.ensures.parts)) (has_pool n))

pub draw-requires : goal.draw-requires
draw-requires g c =
    let n = c.mark.result % clock_step in
    let back = c.join.ensures ∙ (λ j. both_of (c.split-client.ensures.kept j) (c.split-client.ensures.given j)) ∙ ap (λ (v : View). both_of (kept_of (Client 0) v) (given_of (Client 0) v)) c.mark.ensures.parts in
    subst (λ (v : View). MayDraw fresh v left [])
    (sym (c.join-2.ensures ∙ (λ j. both_of (c.split-pool.ensures.kept j) (c.split-pool.ensures.given j)) ∙ ap (λ (v : View). both_of (kept_of (File primary_pool) v) (given_of (File primary_pool) v)) back)) (draws n)

pub tick-requires : goal.tick-requires
tick-requires g c =
    let n = c.mark.result % clock_step in
    let back = c.join.ensures ∙ (λ j. both_of (c.split-client.ensures.kept j) (c.split-client.ensures.given j)) ∙ ap (λ (v : View). both_of (kept_of (Client 0) v) (given_of (Client 0) v)) c.mark.ensures.parts in
    let is = c.join-2.ensures ∙ (λ j. both_of (c.split-pool.ensures.kept j) (c.split-pool.ensures.given j)) ∙ ap (λ (v : View). both_of (kept_of (File primary_pool) v) (given_of (File primary_pool) v)) back in
    subst (MayTick 5) (sym (c.draw.ensures.parts ∙ ap (drawn c.draw.result fresh left) is)) (ticks n c.draw.result)

pub close-requires : goal.close-requires
close-requires g c =
    let n = c.mark.result % clock_step in
    let back = c.join.ensures ∙ (λ j. both_of (c.split-client.ensures.kept j) (c.split-client.ensures.given j)) ∙ ap (λ (v : View). both_of (kept_of (Client 0) v) (given_of (Client 0) v)) c.mark.ensures.parts in
    let joined_is : c.join-2.new.self ≡ joined n = c.join-2.ensures ∙ (λ j. both_of (c.split-pool.ensures.kept j) (c.split-pool.ensures.given j)) ∙ ap (λ (v : View). both_of (kept_of (File primary_pool) v) (given_of (File primary_pool) v)) back in
    let drawn_is : c.draw.new.self ≡ drawn c.draw.result fresh left (joined n) = c.draw.ensures.parts ∙ ap (drawn c.draw.result fresh left) joined_is in
    let read = word_of c.tick.result.tickets c.tick.result.clock in
    let last = word_of c.look.result.tickets c.look.result.clock in
    let ticked_is : c.tick.new.self ≡ ticked read 5 new_names (drawn c.draw.result fresh left (joined n)) = c.tick.ensures.parts new_names (ap (λ (v : View). v.names) drawn_is) ∙ ap (ticked read 5 new_names) drawn_is in
    let looked_is : c.look.new.self ≡ at_end n c.draw.result read last = c.look.ensures.parts ∙ ap (looked last) ticked_is in
    subst (λ (k : Start). HoldsAll k c.look.new.self) (sym c.requires.small) (subst (HoldsAll small) (sym looked_is) (has_all n c.draw.result read last))

use Rattle.std.proofs.Common.{◌≡◌, inl, refl, sym, subst, ap, ◌∙◌}
use Rattle.ufs_joint.specs.Cells.{Start, View, both_of, given_of, kept_of}
use Rattle.ufs_joint.specs.Disks.{cell_of}
use Rattle.ufs_joint.specs.Ends.{HoldsAll}
use Rattle.ufs_joint.specs.Marks.{asking}
use Rattle.ufs_model.specs.declared.data.Op.TheVariants.{Sync}
use Rattle.ufs_model.specs.declared.data.PartName.TheVariants.{Client}
use Rattle.ufs_joint_tests.specs.Small.{answered, small_start}
use Rattle.ufs_hand_laws.specs.Owned.{Has}
use Rattle.ufs_hand_laws.specs.Whole.{idle_asked, idle_client}
use Rattle.ufs_msg_tests.proofs.Passing.{holds_all}
use Rattle.ufs_msg_tests.proofs.served.session.Goals as goal

pub ask-requires-clause-idle : goal.ask-requires-clause-idle
ask-requires-clause-idle g c = subst (λ (v : View). Has (0, idle_client) v.clients) (sym (c.named-table.ensures ∙ ap (λ (k : Start). k.view) c.requires.start)) (inl refl)

pub ask-requires-clause-before : goal.ask-requires-clause-before
ask-requires-clause-before g c = subst (λ (v : View). Has (0, idle_asked) v.asked) (sym (c.named-table.ensures ∙ ap (λ (k : Start). k.view) c.requires.start)) (inl refl)

pub excuse-ticket-requires-clause-view : goal.excuse-ticket-requires-clause-view
excuse-ticket-requires-clause-view g c =
    (c.ask.result, c.join.ensures ∙ (λ j. both_of (c.split-asks.ensures.kept j) (c.split-asks.ensures.given j)) ∙ ap (λ (v : View). both_of (kept_of (Client 0) v) (given_of (Client 0) v)) (c.ask.ensures ∙ ap (asking c.ask.result 0 Sync idle_client) (c.named-table.ensures ∙ ap (λ (k : Start). k.view) c.requires.start)))

pub answer_of-requires-clause-view : goal.answer_of-requires-clause-view
answer_of-requires-clause-view g c =
    let was = c.join.ensures ∙ (λ j. both_of (c.split-asks.ensures.kept j) (c.split-asks.ensures.given j)) ∙ ap (λ (v : View). both_of (kept_of (Client 0) v) (given_of (Client 0) v)) (c.ask.ensures ∙ ap (asking c.ask.result 0 Sync idle_client) (c.named-table.ensures ∙ ap (λ (k : Start). k.view) c.requires.start)) in
    (c.ask.result, c.split-client.ensures.given ∙ ap (given_of (Client 0)) (c.excuse-ticket.ensures c.ask.result was))

pub close-requires-clause-all : goal.close-requires-clause-all
close-requires-clause-all g c =
    let s = g.D.Door.store c.args.store.now in
    let was = c.join.ensures ∙ (λ j. both_of (c.split-asks.ensures.kept j) (c.split-asks.ensures.given j)) ∙ ap (λ (v : View). both_of (kept_of (Client 0) v) (given_of (Client 0) v)) (c.ask.ensures ∙ ap (asking c.ask.result 0 Sync idle_client) (c.named-table.ensures ∙ ap (λ (k : Start). k.view) c.requires.start)) in
    let then : c.excuse-ticket.new.hand ≡ answered c.args.names.now s c.ask.result c.excuse-ticket.result = c.excuse-ticket.ensures c.ask.result was in
    let back = c.hand_of.ensures in
    let at : c.join-2.new.self ≡ both_of (kept_of (Client 0) (answered c.args.names.now s c.ask.result c.excuse-ticket.result)) c.hand_of.result =
    c.join-2.ensures ∙ ap (λ (v : View). both_of v c.hand_of.result) (c.split-client.ensures.kept ∙ ap (kept_of (Client 0)) then) in
    subst (λ (k : Start). HoldsAll k c.join-2.new.self) (sym c.requires.start)
    (subst (HoldsAll (small_start c.args.names.now s)) (sym at)
    (holds_all c.args.names.now s c.requires.part (kept_of (Client 0) (answered c.args.names.now s c.ask.result c.excuse-ticket.result)) c.hand_of.result back.0 back.1 refl refl refl refl))

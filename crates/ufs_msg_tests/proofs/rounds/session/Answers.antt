use Rattle.std.proofs.Common.{◌≡◌, inl, inr, refl, sym, subst, ap, ◌∙◌}
use Rattle.ufs_joint.specs.Cells.{Start, View, both_of, given_of, kept_of}
use Rattle.ufs_joint.specs.Ends.{HoldsAll}
use Rattle.ufs_joint.specs.Marks.{asking}
use Rattle.ufs_model.specs.declared.data.Op.TheVariants.{Sync}
use Rattle.ufs_model.specs.declared.data.PartName.TheVariants.{Client}
use Rattle.ufs_msg.specs.Requests.{IsAsked}
use Rattle.ufs_hand_laws.specs.Owned.{Has}
use Rattle.ufs_hand_laws.specs.Whole.{idle_asked, idle_client}
use Rattle.ufs_msg_tests.specs.TwoClients.{both_asked, none_left, second_left, sync_of}
use Rattle.ufs_msg_tests.proofs.TwoClients.{both_back, first_asked, second_asked}
use Rattle.ufs_msg_tests.proofs.rounds.session.Goals as goal

pub ask-requires-clause-idle : goal.ask-requires-clause-idle
ask-requires-clause-idle g c = subst (λ (v : View). Has (0, idle_client) v.clients) (sym (c.named-table.ensures ∙ ap (λ (k : Start). k.view) c.requires.start)) (inl refl)

pub ask-requires-clause-before : goal.ask-requires-clause-before
ask-requires-clause-before g c = subst (λ (v : View). Has (0, idle_asked) v.asked) (sym (c.named-table.ensures ∙ ap (λ (k : Start). k.view) c.requires.start)) (inl refl)

pub ask-requires-2-clause-idle : goal.ask-requires-2-clause-idle
ask-requires-2-clause-idle g c =
    let first = c.named-table.ensures ∙ ap (λ (k : Start). k.view) c.requires.start in
    subst (λ (v : View). Has (1, idle_client) v.clients) (sym (c.ask.ensures ∙ ap (asking c.ask.result 0 Sync idle_client) first)) (inr (inl refl))

pub ask-requires-2-clause-before : goal.ask-requires-2-clause-before
ask-requires-2-clause-before g c =
    let first = c.named-table.ensures ∙ ap (λ (k : Start). k.view) c.requires.start in
    subst (λ (v : View). Has (1, idle_asked) v.asked) (sym (c.ask.ensures ∙ ap (asking c.ask.result 0 Sync idle_client) first)) (inr (inl refl))

pub request_of-first-requires : goal.request_of-first-requires
request_of-first-requires g c =
    let n = c.args.names.now in
    let s = g.D.Door.store c.args.store.now in
    let first = c.named-table.ensures ∙ ap (λ (k : Start). k.view) c.requires.start in
    let both : c.ask-2.new.hand ≡ both_asked n s c.ask.result c.ask-2.result = c.ask-2.ensures ∙ ap (asking c.ask-2.result 1 Sync idle_client) (c.ask.ensures ∙ ap (asking c.ask.result 0 Sync idle_client) first) in
    subst (λ (x : Start × View). IsAsked x.0 (sync_of 0) x.1) (λ j. (sym c.requires.start j, sym (c.split.ensures.given ∙ ap (given_of (Client 0)) both) j)) (first_asked n s c.ask.result c.ask-2.result)

pub request_of-second-requires : goal.request_of-second-requires
request_of-second-requires g c =
    let n = c.args.names.now in
    let s = g.D.Door.store c.args.store.now in
    let first = c.named-table.ensures ∙ ap (λ (k : Start). k.view) c.requires.start in
    let both : c.ask-2.new.hand ≡ both_asked n s c.ask.result c.ask-2.result = c.ask-2.ensures ∙ ap (asking c.ask-2.result 1 Sync idle_client) (c.ask.ensures ∙ ap (asking c.ask.result 0 Sync idle_client) first) in
    let left : c.split.new.self ≡ second_left n s c.ask.result c.ask-2.result = c.split.ensures.kept ∙ ap (kept_of (Client 0)) both in
    subst (λ (x : Start × View). IsAsked x.0 (sync_of 1) x.1) (λ j. (sym c.requires.start j, sym (c.split-2.ensures.given ∙ ap (given_of (Client 1)) left) j)) (second_asked n s c.ask.result c.ask-2.result)

pub close-requires-clause-all : goal.close-requires-clause-all
close-requires-clause-all g c =
    let n = c.args.names.now in
    let s = g.D.Door.store c.args.store.now in
    let first = c.named-table.ensures ∙ ap (λ (k : Start). k.view) c.requires.start in
    let both : c.ask-2.new.hand ≡ both_asked n s c.ask.result c.ask-2.result = c.ask-2.ensures ∙ ap (asking c.ask-2.result 1 Sync idle_client) (c.ask.ensures ∙ ap (asking c.ask.result 0 Sync idle_client) first) in
    let left : c.split-2.new.self ≡ none_left n s c.ask.result c.ask-2.result = c.split-2.ensures.kept ∙ ap (kept_of (Client 1)) (c.split.ensures.kept ∙ ap (kept_of (Client 0)) both) in
    let one = c.hand_of.ensures in
    let other = c.hand_of-2.ensures in
    let all : c.join-2.new.self ≡ both_of (both_of (none_left n s c.ask.result c.ask-2.result) c.hand_of.result) c.hand_of-2.result =
    c.join-2.ensures ∙ ap (λ (v : View). both_of v c.hand_of-2.result) (c.join.ensures ∙ ap (λ (v : View). both_of v c.hand_of.result) left) in
    subst (λ (x : Start × View). HoldsAll x.0 x.1) (λ j. (sym c.requires.start j, sym all j)) (both_back n s c.ask.result c.ask-2.result c.requires.part c.hand_of.result c.hand_of-2.result one.0 other.0 one.1 other.1)

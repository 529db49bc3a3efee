use Rattle.std.proofs.Common.{◌≡◌, ap, refl, sym, subst, ◌∙◌}
use Rattle.std.specs.Prelude.{IsSome}
use Rattle.std.specs.FinMap as fin
use Rattle.ufs_joint.specs.Cells.{NamesCell, Start, View, both_of, given_of, kept_of}
use Rattle.ufs_joint.specs.Ends.{HoldsAll}
use Rattle.ufs_joint.specs.Marks.{asking}
use Rattle.ufs_joint.specs.Whole.{no_blocks}
use Rattle.ufs_model.specs.declared.data.Op.TheVariants.{Sync}
use Rattle.ufs_model.specs.declared.data.PartName.TheVariants.{Client, File, Names, Store}
use Rattle.ufs_hand_laws.specs.Whole.{idle_client}
use Rattle.ufs_turns.specs.HeldStore.{IsHeldStore}
use Rattle.ufs_turns.specs.Lent.{IsBare}
use Rattle.ufs_held.specs.Asking.{IsGuest}
use Rattle.ufs_held_names.specs.Dirs.{answered}
use Rattle.ufs_held_names.specs.HeldNames.{HoldsNames, first_names}
use Rattle.ufs_held_tests.proofs.Gathering.{all_there, guest, guest_is, home, names_there, no_file, none_named, rest_bare, syncing, v}
use Rattle.ufs_held_tests.proofs.session.run.Goals as goal

pub ask-requires-clause-client : goal.ask-requires-clause-client
ask-requires-clause-client g c = ap (λ (q : View). q.clients) (c.named-table.ensures ∙ ap (λ (k : Start). k.view) c.requires.start)

pub ask-requires-clause-asked : goal.ask-requires-clause-asked
ask-requires-clause-asked g c = ap (λ (q : View). q.asked) (c.named-table.ensures ∙ ap (λ (k : Start). k.view) c.requires.start)

pub new-held-requires-clause-home : goal.new-held-requires-clause-home
new-held-requires-clause-home g c =
    let n = c.args.noted.names in
    let s = g.D.Door.store c.args.store in
    let r = c.ask.result in
    let first : c.ask.new.hand ≡ v n s r = c.ask.ensures ∙ ap (asking r 0 Sync idle_client) (c.named-table.ensures ∙ ap (λ (k : Start). k.view) c.requires.start) in
    subst (λ (x : Start × View). IsHeldStore x.0 g.N.Naming.origin g.D.Door.visible g.D.Door.keeps x.1 s) (λ j. (sym c.requires.start j, sym (c.split-own.ensures.given ∙ ap (given_of Store) first) j)) (home n s r g.N.Naming.origin g.D.Door.visible g.D.Door.keeps c.requires.stored)

pub new-names-requires-clause-held : goal.new-names-requires-clause-held
new-names-requires-clause-held g c =
    let n = c.args.noted.names in
    let s = g.D.Door.store c.args.store in
    let r = c.ask.result in
    let first : c.ask.new.hand ≡ v n s r = c.ask.ensures ∙ ap (asking r 0 Sync idle_client) (c.named-table.ensures ∙ ap (λ (k : Start). k.view) c.requires.start) in
    let right = c.split-right.ensures.given ∙ ap (given_of Names) (c.split-own.ensures.kept ∙ ap (kept_of Store) first) in
    subst (HoldsNames c.args.noted) (sym right) (names_there n s r c.args.noted c.requires.noted)

pub new-names-requires-clause-calm : goal.new-names-requires-clause-calm
new-names-requires-clause-calm g c = ap (λ (q : View). q.faults) c.split-right.ensures.given

pub new-names-requires-clause-all : goal.new-names-requires-clause-all
new-names-requires-clause-all g c =
    let n = c.args.noted.names in
    let s = g.D.Door.store c.args.store in
    let r = c.ask.result in
    let first : c.ask.new.hand ≡ v n s r = c.ask.ensures ∙ ap (asking r 0 Sync idle_client) (c.named-table.ensures ∙ ap (λ (k : Start). k.view) c.requires.start) in
    let right = c.split-right.ensures.given ∙ ap (given_of Names) (c.split-own.ensures.kept ∙ ap (kept_of Store) first) in
    ap (λ (q : View). (first_names c.args.noted q.names).named) right ∙ none_named n s r c.requires.part

pub straight-turned-requires-clause-guest : goal.straight-turned-requires-clause-guest
straight-turned-requires-clause-guest g c =
    let n = c.args.noted.names in
    let s = g.D.Door.store c.args.store in
    let r = c.ask.result in
    let first : c.ask.new.hand ≡ v n s r = c.ask.ensures ∙ ap (asking r 0 Sync idle_client) (c.named-table.ensures ∙ ap (λ (k : Start). k.view) c.requires.start) in
    let unnamed = c.split-right.ensures.kept ∙ ap (kept_of Names) (c.split-own.ensures.kept ∙ ap (kept_of Store) first) in
    let unguested = c.split-guest.ensures.kept ∙ ap (kept_of (Client 0)) unnamed in
    let came = c.join.ensures ∙ (λ i. both_of ((c.split-guest.ensures.given ∙ ap (given_of (Client 0)) unnamed) i) ((c.split-pool.ensures.given ∙ ap (given_of (File 3)) unguested) i)) in
    (syncing n s r, 3, no_blocks, subst (IsGuest 0 (syncing n s r) 3 no_blocks) (sym came) (guest_is n s r), refl, refl)

pub straight-turned-requires-clause-none : goal.straight-turned-requires-clause-none
straight-turned-requires-clause-none g c file is =
    let n = c.args.noted.names in
    let s = g.D.Door.store c.args.store in
    let r = c.ask.result in
    let first : c.ask.new.hand ≡ v n s r = c.ask.ensures ∙ ap (asking r 0 Sync idle_client) (c.named-table.ensures ∙ ap (λ (k : Start). k.view) c.requires.start) in
    let right = c.split-right.ensures.given ∙ ap (given_of Names) (c.split-own.ensures.kept ∙ ap (kept_of Store) first) in
    let named = c.new-names.ensures ∙ ap (λ (q : View). first_names c.args.noted q.names) right in
    no_file n s r c.requires.part file (subst (λ (q : NamesCell). IsSome (fin.get q.value.held file)) named is)

pub straight-turned-requires-clause-bare : goal.straight-turned-requires-clause-bare
straight-turned-requires-clause-bare g c =
    let n = c.args.noted.names in
    let s = g.D.Door.store c.args.store in
    let r = c.ask.result in
    let first : c.ask.new.hand ≡ v n s r = c.ask.ensures ∙ ap (asking r 0 Sync idle_client) (c.named-table.ensures ∙ ap (λ (k : Start). k.view) c.requires.start) in
    let unnamed = c.split-right.ensures.kept ∙ ap (kept_of Names) (c.split-own.ensures.kept ∙ ap (kept_of Store) first) in
    let unguested = c.split-guest.ensures.kept ∙ ap (kept_of (Client 0)) unnamed in
    subst IsBare (sym (c.split-pool.ensures.kept ∙ ap (kept_of (File 3)) unguested)) (rest_bare n s r)

pub close-tickets-requires-clause-all : goal.close-tickets-requires-clause-all
close-tickets-requires-clause-all g c =
    let n = c.args.noted.names in
    let s = g.D.Door.store c.args.store in
    let r = c.ask.result in
    let first : c.ask.new.hand ≡ v n s r = c.ask.ensures ∙ ap (asking r 0 Sync idle_client) (c.named-table.ensures ∙ ap (λ (k : Start). k.view) c.requires.start) in
    let right = c.split-right.ensures.given ∙ ap (given_of Names) (c.split-own.ensures.kept ∙ ap (kept_of Store) first) in
    let named = c.new-names.ensures ∙ ap (λ (q : View). first_names c.args.noted q.names) right in
    let unnamed = c.split-right.ensures.kept ∙ ap (kept_of Names) (c.split-own.ensures.kept ∙ ap (kept_of Store) first) in
    let unguested = c.split-guest.ensures.kept ∙ ap (kept_of (Client 0)) unnamed in
    let came = c.join.ensures ∙ (λ i. both_of ((c.split-guest.ensures.given ∙ ap (given_of (Client 0)) unnamed) i) ((c.split-pool.ensures.given ∙ ap (given_of (File 3)) unguested) i)) in
    let kept = c.split-pool.ensures.kept ∙ ap (kept_of (File 3)) unguested in
    let turned = c.straight-turned in
    let t = g.D.Door.store c.into_parts-own.result.1 in
    let own = c.into_parts-own.result.0 in
    let part = answered (syncing n s r) turned.result.0.entry in
    let back : IsGuest 0 part 3 no_blocks turned.result.0.guest = turned.ensures.guest (syncing n s r) 3 no_blocks (subst (IsGuest 0 (syncing n s r) 3 no_blocks) (sym came) (guest_is n s r)) in
    let same = turned.ensures.held ∙ ap (λ (q : NamesCell). q.value.held) named in
    let stored = subst (λ (k : Start). IsHeldStore k g.N.Naming.origin g.D.Door.visible g.D.Door.keeps own t) c.requires.start c.into_parts-own.ensures.home in
    subst (λ (x : Start × View). HoldsAll x.0 x.1)
    (λ j. (sym c.requires.start j, sym (c.join-4.ensures ∙ ap (λ (q : View). both_of q own) (c.join-3.ensures ∙ ap (λ (q : View). both_of q c.into_parts-right.result.1) c.join-2.ensures)) j))
    (all_there n s r c.requires.part g.N.Naming.origin g.D.Door.visible g.D.Door.keeps turned.new.hand turned.result.0.guest c.into_parts-right.result.1 own part t turned.new.names turned.ensures.bare back c.into_parts-right.ensures.hand same
    (turned.ensures.clients ∙ ap (λ (q : View). q.clients) kept) (turned.ensures.pools ∙ ap (λ (q : View). q.pools) kept) stored)

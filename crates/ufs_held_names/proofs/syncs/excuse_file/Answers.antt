use Rattle.std.proofs.Common.{◌≡◌, ◌≤◌, ◌++◌, ℕ, List, Some, ap, refl, sym, subst, ◌∙◌, arith}
use Rattle.std.proofs.lemmas.List.{append-nil}
use Rattle.ufs_file_commits.specs.State.{DurableState, state_of}
use Rattle.ufs_file.specs.Hand.{IsFileOf, IsOf}
use Rattle.ufs_joint.specs.Cells.{View, given_of, kept_of}
use Rattle.ufs_joint.specs.Draws.{drawn}
use Rattle.ufs_joint.specs.FileHands.{IsFileHand}
use Rattle.ufs_model.specs.FileCalls.{file_refusal}
use Rattle.ufs_model.specs.declared.data.Desc.{Desc}
use Rattle.ufs_model.specs.declared.data.PartName.TheVariants.{File}
use Rattle.ufs_model.specs.declared.data.Reply.TheVariants.{Excused}
use Rattle.ufs_crash_laws.specs.Changes.{asks_commit}
use Rattle.ufs_hand_laws.specs.Draws.{left_faults}
use Rattle.ufs_hand_laws.specs.Owned.{times}
use Rattle.ufs_hand_laws.specs.Parts.{ClientPart}
use Rattle.ufs_turns.proofs.Hands.{later_left}
use Rattle.ufs_held.specs.Asking.{Asks, IsGuest, faults_of}
use Rattle.ufs_held.specs.Drawn.{fresh_of}
use Rattle.ufs_held.specs.Held.{IsHeld, first_cell}
use Rattle.ufs_held.specs.Together.{still_of}
use Rattle.ufs_held.proofs.After.{acknowledged, answered_still, guest_still, held_still, joined_hand, same_part, still_first}
use Rattle.ufs_held.proofs.Excusing.{excuse_fits, its_fault, stop_joined, told_joined, used_by}
use Rattle.ufs_held.proofs.Replying.{may_excuse}
use Rattle.ufs_held_names.proofs.Lending.{file_there, guest_there, guest_untold, own_told, same_joined}
use Rattle.ufs_held_names.proofs.syncs.excuse_file.Goals as goal

pub draw_reply-entry-requires : goal.draw_reply-entry-requires
draw_reply-entry-requires g c =
    let f = c.requires.guest in
    let own = c.into_parts-hand.result.2 in
    let x = state_of c.into_parts-hand.result.0 c.into_parts-hand.result.1 in
    let alone = c.into_parts-hand.ensures.hand in
    let value = c.into_parts-hand.ensures.value in
    let told = own_told c.args.guest own c.args.ask.client f.0 f.1 f.2 c.args.file f.3 alone in
    let there = file_there c.args.guest own c.args.ask.client f.0 f.1 f.2 c.args.file f.3 alone x value in
    let joined = c.join.ensures ∙ same_joined c.args.guest own c.args.ask.client f.0 f.1 f.2 c.args.file f.3 alone in
    let back = guest_untold c.args.guest own c.args.ask.client f.0 f.1 f.2 c.args.file f.3 alone in
    let came = guest_there c.args.guest own c.args.ask.client f.0 f.1 f.2 c.args.file f.3 alone in
    let named = subst (λ (q : DurableState). IsOf c.args.ask.desc q.file.file) value c.requires.named in
    let allowed = λ (d : Desc) (is : c.args.ask.desc ≡ Some d). ap (file_refusal x.file.content.bytes d) c.requires.fsync.1 in
    let cause = c.args.cause in
    let rest = c.requires.told in
    let hand = subst (λ (v : View). IsFileHand v c.args.ask.client f.0 x.file.file there.cell f.1 f.2) (sym joined) (joined_hand told back x c.args.ask.client f.0 f.1 f.2 there came) in
    record {
      may = λ ticket. may_excuse g.N.Naming.start c.join.new.self f.0 x.file.file there.cell f.1 f.2 c.args.ask c.args.by ticket hand f.4 c.requires.server c.an_excuse_is_drawn.ensures cause
          (λ fault is.
          subst (λ (v : View). 1 ≤ times fault v.faults) (sym c.join.ensures)
          (told_joined fault c.args.guest.faults own.faults (subst (λ (fs : List ℕ). 1 ≤ times fault fs) (sym rest.1) (told_joined fault (faults_of cause) rest.0 (its_fault cause (faults_of cause) fault refl is)))))
          (λ fault is. subst (λ (v : View). v.stop ≡ Some fault) (sym c.join.ensures) (stop_joined c.args.guest.stop own.stop fault (c.requires.stopped fault is)))
          (λ fault by is. subst (λ (v : View). v.stop ≡ Some fault) (sym c.join.ensures) (stop_joined c.args.guest.stop own.stop fault (c.requires.committed fault is)))
          (λ fault is. ap asks_commit c.requires.fsync.1)
          (λ t of asked. excuse_fits c.a_file_goes_on_by_itself.ensures.refusals x.file c.args.ask cause f.4.on_file named allowed c.requires.kind t (subst (λ (q : DurableState). IsFileOf q.file t) there.value of) asked);
    }

pub new-file-requires-clause-held : goal.new-file-requires-clause-held
new-file-requires-clause-held g c =
    let f = c.requires.guest in
    let own = c.into_parts-hand.result.2 in
    let x = state_of c.into_parts-hand.result.0 c.into_parts-hand.result.1 in
    let alone = c.into_parts-hand.ensures.hand in
    let value = c.into_parts-hand.ensures.value in
    let same = same_joined c.args.guest own c.args.ask.client f.0 f.1 f.2 c.args.file f.3 alone in
    let told = own_told c.args.guest own c.args.ask.client f.0 f.1 f.2 c.args.file f.3 alone in
    let there = file_there c.args.guest own c.args.ask.client f.0 f.1 f.2 c.args.file f.3 alone x value in
    let joined = c.join.ensures ∙ same in
    let off = λ (e : f.1 ≡ x.file.file). f.5 (e ∙ ap (λ (q : DurableState). q.file.file) (sym value)) in
    let entry = c.draw_reply-entry.result in
    let z = c.draw_reply-entry.new.hand in
    let t = c.draw_reply-entry.ensures in
    let is = t.cells ∙ ap (λ (v : View). drawn entry.ticket (fresh_of entry) (still_of v) v) joined in
    let back = guest_untold c.args.guest own c.args.ask.client f.0 f.1 f.2 c.args.file f.3 alone in
    let came = guest_there c.args.guest own c.args.ask.client f.0 f.1 f.2 c.args.file f.3 alone in
    subst (IsHeld x) (sym (c.split-right.ensures.given ∙ ap (λ (m : ℕ). given_of (File m) z) c.file.ensures)) (held_still told back x c.args.ask.client f.0 f.1 f.2 there came entry t.entry.client z is off)

pub new-file-requires-clause-calm : goal.new-file-requires-clause-calm
new-file-requires-clause-calm g c = ap (λ (v : View). v.faults) c.split-right.ensures.given

pub returns : goal.returns
returns g c =
    let f = c.requires.guest in
    let own = c.into_parts-hand.result.2 in
    let x = state_of c.into_parts-hand.result.0 c.into_parts-hand.result.1 in
    let alone = c.into_parts-hand.ensures.hand in
    let value = c.into_parts-hand.ensures.value in
    let same = same_joined c.args.guest own c.args.ask.client f.0 f.1 f.2 c.args.file f.3 alone in
    let told = own_told c.args.guest own c.args.ask.client f.0 f.1 f.2 c.args.file f.3 alone in
    let there = file_there c.args.guest own c.args.ask.client f.0 f.1 f.2 c.args.file f.3 alone x value in
    let joined = c.join.ensures ∙ same in
    let off = λ (e : f.1 ≡ x.file.file). f.5 (e ∙ ap (λ (q : DurableState). q.file.file) (sym value)) in
    let entry = c.draw_reply-entry.result in
    let z = c.draw_reply-entry.new.hand in
    let t = c.draw_reply-entry.ensures in
    let is = t.cells ∙ ap (λ (v : View). drawn entry.ticket (fresh_of entry) (still_of v) v) joined in
    let back = guest_untold c.args.guest own c.args.ask.client f.0 f.1 f.2 c.args.file f.3 alone in
    let came = guest_there c.args.guest own c.args.ask.client f.0 f.1 f.2 c.args.file f.3 alone in
    let first = c.new-file.ensures ∙ ap (λ (v : View). first_cell x v.files) (c.split-right.ensures.given ∙ ap (λ (m : ℕ). given_of (File m) z) c.file.ensures)
    ∙ still_first told back x c.args.ask.client f.0 f.1 f.2 there came entry t.entry.client z is off in
    let left = c.split-right.ensures.kept ∙ ap (λ (m : ℕ). kept_of (File m) z) c.file.ensures in
    record {
      excused = record {
        entry = t.entry;
        replied = t.replied;
        desc = refl;
        guest = λ part n pool came_so off_so.
            let there_so = file_there c.args.guest own c.args.ask.client part n pool c.args.file came_so alone x value in
            let told_so = own_told c.args.guest own c.args.ask.client part n pool c.args.file came_so alone in
            let back_so = guest_untold c.args.guest own c.args.ask.client part n pool c.args.file came_so alone in
            let joined_so = c.join.ensures ∙ same_joined c.args.guest own c.args.ask.client part n pool c.args.file came_so alone in
            let is_so = t.cells ∙ ap (λ (v : View). drawn entry.ticket (fresh_of entry) (still_of v) v) joined_so in
            let out = guest_there c.args.guest own c.args.ask.client part n pool c.args.file came_so alone in
            let far = λ (e : n ≡ x.file.file). off_so (e ∙ ap (λ (q : DurableState). q.file.file) (sym value)) in
            let asks = subst (λ (p : ClientPart). Asks p c.args.ask) (same_part c.args.ask.client f.0 part f.1 n f.2 pool c.args.guest f.3 came_so) f.4 in (
              acknowledged told_so back_so x c.args.ask.client part n pool there_so out entry t.entry.client z is_so far,
              answered_still told_so back_so x c.args.ask.client part n pool there_so out entry t.entry.client z is_so far c.args.ask asks t.entry.asked,
              subst (IsGuest c.args.ask.client (acknowledged told_so back_so x c.args.ask.client part n pool there_so out entry t.entry.client z is_so far) n pool) (sym left)
                  (guest_still told_so back_so x c.args.ask.client part n pool there_so out entry t.entry.client z is_so far),
            );
        same = first;
        faults = λ rest told_so.
            ap (λ (v : View). v.faults) left ∙ ap (λ (v : View). v.faults) t.cells ∙ ap (λ (v : View). left_faults entry.reply v.faults) c.join.ensures
            ∙ (λ i. left_faults (t.replied i) (c.args.guest.faults ++ c.into_parts-hand.ensures.calm i)) ∙ ap (left_faults (Excused c.args.cause)) (append-nil c.args.guest.faults ∙ told_so) ∙ used_by c.args.cause rest;
        stop = λ fault is. ap (λ (v : View). v.stop) left ∙ ap (λ (v : View). v.stop) t.cells ∙ ap (λ (v : View). v.stop) c.join.ensures ∙ stop_joined c.args.guest.stop own.stop fault is;
        later =
            let l : c.args.guest.seen ≤ c.join.new.self.seen = subst (λ (v : View). c.args.guest.seen ≤ v.seen) (sym c.join.ensures) (later_left c.args.guest.seen own.seen) in
            let m = t.later in
            omega (arith, l, m);
        seen = ap (λ (v : View). v.seen) left ∙ ap (λ (v : View). v.seen) t.cells;
      };
    }

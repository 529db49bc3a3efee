use Rattle.std.proofs.Common.{◌≡◌, ◌≤◌, ◌++◌, ℕ, Some, ap, sym, subst, ◌∙◌}
use Rattle.ufs_file_commits.specs.State.{DurableState, state_of}
use Rattle.ufs_file.specs.Hand.{IsFileOf}
use Rattle.ufs_joint.specs.Cells.{FileCell, View, given_of, kept_of}
use Rattle.ufs_joint.specs.Draws.{drawn}
use Rattle.ufs_joint.specs.FileHands.{IsFileHand}
use Rattle.ufs_model.specs.declared.data.PartName.TheVariants.{File}
use Rattle.ufs_hand_laws.specs.Draws.{left_faults}
use Rattle.ufs_hand_laws.specs.Owned.{times}
use Rattle.ufs_hand_laws.specs.Parts.{ClientPart}
use Rattle.ufs_held.specs.Asking.{Asks, IsGuest}
use Rattle.ufs_held.specs.Drawn.{fresh_of}
use Rattle.ufs_held.specs.Held.{IsHeld, first_cell}
use Rattle.ufs_held.specs.Together.{still_of}
use Rattle.ufs_held.proofs.After.{acknowledged, answered_still, came_below, first_held, guest_still, held_still, joined_hand, same_part, still_first}
use Rattle.ufs_held.proofs.Excusing.{excuse_fits, its_fault, stop_joined, told_joined, used_by}
use Rattle.ufs_held.proofs.Replying.{may_excuse}
use Rattle.ufs_held.proofs.excuses.serve_excused.Goals as goal

pub draw_reply-entry-requires : goal.draw_reply-entry-requires
draw_reply-entry-requires g c =
    let f = c.requires.guest in
    let held = c.requires.held in
    let own = c.args.right.now in
    let x = state_of c.args.file.now c.args.commits.now in
    let cause = c.args.cause in
    let hand = subst (λ (v : View). IsFileHand v c.args.ask.client f.0 x.file.file held.cell f.1 f.2) (sym c.join.ensures) (joined_hand own c.args.guest x c.args.ask.client f.0 f.1 f.2 held f.3) in
    record {
      may = λ ticket. may_excuse g.N.Naming.start c.join.new.self f.0 x.file.file held.cell f.1 f.2 c.args.ask c.args.by ticket hand f.4 c.requires.server c.an_excuse_is_drawn.ensures cause
          (λ fault is. subst (λ (v : View). 1 ≤ times fault v.faults) (sym c.join.ensures) (told_joined fault own.faults c.args.guest.faults (its_fault cause own.faults fault c.requires.told is)))
          (λ fault is. subst (λ (v : View). v.stop ≡ Some fault) (sym c.join.ensures) (stop_joined own.stop c.args.guest.stop fault (c.requires.stopped fault is)))
          (λ fault by is. subst (λ (v : View). v.stop ≡ Some fault) (sym c.join.ensures) (stop_joined own.stop c.args.guest.stop fault (c.requires.committed fault by is)))
          c.requires.asks
          (λ t of asked. excuse_fits c.a_file_goes_on_by_itself.ensures.refusals x.file c.args.ask cause f.4.on_file c.requires.named c.requires.allowed c.requires.kind t (subst (λ (q : DurableState). IsFileOf q.file t) held.value of) asked);
    }

pub returns-clause-held : goal.returns-clause-held
returns-clause-held g c =
    let f = c.requires.guest in
    let held = c.requires.held in
    let x = state_of c.args.file.now c.args.commits.now in
    let own = c.args.right.now in
    let entry = c.draw_reply-entry.result in
    let z = c.draw_reply-entry.new.hand in
    let is = c.draw_reply-entry.ensures.cells ∙ ap (λ (v : View). drawn entry.ticket (fresh_of entry) (still_of v) v) c.join.ensures in
    subst (IsHeld x) (sym (c.replace-guest.ensures.after ∙ c.split-own.ensures.given ∙ ap (λ (m : ℕ). given_of (File m) z) c.file.ensures))
    (held_still own c.args.guest x c.args.ask.client f.0 f.1 f.2 held f.3 entry c.draw_reply-entry.ensures.entry.client z is f.5)

pub returns-clause-guest : goal.returns-clause-guest
returns-clause-guest g c = λ part n pool came off.
    let f = c.requires.guest in
    let held = c.requires.held in
    let x = state_of c.args.file.now c.args.commits.now in
    let own = c.args.right.now in
    let entry = c.draw_reply-entry.result in
    let z = c.draw_reply-entry.new.hand in
    let is = c.draw_reply-entry.ensures.cells ∙ ap (λ (v : View). drawn entry.ticket (fresh_of entry) (still_of v) v) c.join.ensures in
    let asks = subst (λ (p : ClientPart). Asks p c.args.ask) (same_part c.args.ask.client f.0 part f.1 n f.2 pool c.args.guest f.3 came) f.4 in (
      acknowledged own c.args.guest x c.args.ask.client part n pool held came entry c.draw_reply-entry.ensures.entry.client z is off,
      answered_still own c.args.guest x c.args.ask.client part n pool held came entry c.draw_reply-entry.ensures.entry.client z is off c.args.ask asks c.draw_reply-entry.ensures.entry.asked,
      subst (IsGuest c.args.ask.client (acknowledged own c.args.guest x c.args.ask.client part n pool held came entry c.draw_reply-entry.ensures.entry.client z is off) n pool)
          (sym (c.replace-guest.ensures.value ∙ c.split-own.ensures.kept ∙ ap (λ (m : ℕ). kept_of (File m) z) c.file.ensures))
          (guest_still own c.args.guest x c.args.ask.client part n pool held came entry c.draw_reply-entry.ensures.entry.client z is off),
    )

pub returns-clause-cell : goal.returns-clause-cell
returns-clause-cell g c =
    let f = c.requires.guest in
    let held = c.requires.held in
    let x = state_of c.args.file.now c.args.commits.now in
    let own = c.args.right.now in
    let entry = c.draw_reply-entry.result in
    let z = c.draw_reply-entry.new.hand in
    let is = c.draw_reply-entry.ensures.cells ∙ ap (λ (v : View). drawn entry.ticket (fresh_of entry) (still_of v) v) c.join.ensures in
    ap (λ (v : View). first_cell x v.files) (c.replace-guest.ensures.after ∙ c.split-own.ensures.given ∙ ap (λ (m : ℕ). given_of (File m) z) c.file.ensures)
    ∙ still_first own c.args.guest x c.args.ask.client f.0 f.1 f.2 held f.3 entry c.draw_reply-entry.ensures.entry.client z is f.5
    ∙ sym (first_held x own held)

pub returns-clause-calm : goal.returns-clause-calm
returns-clause-calm g c = ap (λ (v : View). v.faults) (c.replace-guest.ensures.after ∙ c.split-own.ensures.given)

pub returns-clause-faults : goal.returns-clause-faults
returns-clause-faults g c =
    let d = c.draw_reply-entry.ensures in
    ap (λ (v : View). v.faults) (c.replace-guest.ensures.value ∙ c.split-own.ensures.kept)
    ∙ ap (λ (v : View). v.faults) d.cells
    ∙ ap (λ (v : View). left_faults c.draw_reply-entry.result.reply v.faults) c.join.ensures
    ∙ (λ i. left_faults (d.replied i) (c.requires.told i ++ c.args.guest.faults))
    ∙ used_by c.args.cause c.args.guest.faults

pub returns-clause-stop : goal.returns-clause-stop
returns-clause-stop g c fault is =
    ap (λ (v : View). v.stop) (c.replace-guest.ensures.value ∙ c.split-own.ensures.kept)
    ∙ ap (λ (v : View). v.stop) c.draw_reply-entry.ensures.cells
    ∙ ap (λ (v : View). v.stop) c.join.ensures
    ∙ stop_joined c.args.right.now.stop c.args.guest.stop fault (c.requires.stopped fault is)

pub returns-clause-later : goal.returns-clause-later
returns-clause-later g c = came_below c.args.right.now c.args.guest c.join.new.self c.draw_reply-entry.result.ticket c.join.ensures c.draw_reply-entry.ensures.later

pub returns-clause-seen : goal.returns-clause-seen
returns-clause-seen g c = ap (λ (v : View). v.seen) (c.replace-guest.ensures.value ∙ c.split-own.ensures.kept) ∙ ap (λ (v : View). v.seen) c.draw_reply-entry.ensures.cells

use Rattle.std.proofs.Common.{◌≡◌, ℕ, ap, refl, sym, subst, ◌∙◌}
use Rattle.ufs_file.specs.Hand.{IsEntryOf}
use Rattle.ufs_joint.specs.Cells.{NamesCell, View, both_of, given_of, kept_of}
use Rattle.ufs_joint.specs.Draws.{Leaves, MayDraw}
use Rattle.ufs_joint.specs.NamesHands.{SyncsMayDraw}
use Rattle.ufs_model.specs.declared.data.Entry.{Entry}
use Rattle.ufs_model.specs.declared.data.PartName.TheVariants.{Names}
use Rattle.ufs_hand_laws.specs.Draws.{entry_of}
use Rattle.ufs_hand_laws.specs.declared.fresh.Fresh.{Fresh}
use Rattle.ufs_held.specs.Drawn.{fresh_of, replied_to}
use Rattle.ufs_held.specs.Together.{HasDrawnStill, still_of}
use Rattle.ufs_noted.specs.Noted.{Noted}
use Rattle.ufs_held_names.specs.Dirs.{IsNamesGuest}
use Rattle.ufs_held_names.specs.SyncAll.{AreAllLive, MayAnswerAll}
use Rattle.ufs_held_names.proofs.After.{first_held}
use Rattle.ufs_held_names.proofs.Answered.{HaveAnswered, have_answered}
use Rattle.ufs_held_names.proofs.Answering.{joined_guest}
use Rattle.ufs_held_names.proofs.AnsweringAll.{all_apart, may_answer_all, may_joined_all}
use Rattle.ufs_held_names.proofs.sync_answers.answer_all.Goals as goal

pub draw_with_files-ticket-requires : goal.draw_with_files-ticket-requires
draw_with_files-ticket-requires g c =
    let f = c.requires.guest in
    let held = c.requires.held in
    let own = c.args.right.now in
    let x = c.args.noted.now in
    let k = g.N.Naming.start in
    let client = c.args.ask.client in
    let olds = c.args.files.now in
    let fresh = replied_to c.args.ask c.args.by c.args.reply in
    let joined = c.join.ensures ∙ ap (both_of c.args.guest) c.split-own.ensures.given in
    let may = may_joined_all own c.args.guest x held k.is_visible olds c.args.reply (subst (λ (q : NamesCell). MayAnswerAll k.is_visible q olds c.args.guest c.args.reply) (first_held x own held) c.requires.may) in
    let has = subst (IsNamesGuest client f.0 held.cell f.1 f.2) (sym joined) (joined_guest own c.args.guest x held client f.0 f.1 f.2 f.3) in
    let all = subst (λ (q : Noted). AreAllLive q.names olds) (sym held.value) c.requires.all in
    record {
      apart = all_apart client f.0 held.cell f.1 f.2 olds c.join.new.self has all f.5;
      may = λ w too ticket.
          subst (λ (q : Fresh). MayDraw k.geometry k.is_visible w q (still_of w) ticket) (sym c.reply_to-fresh.ensures)
          (may_answer_all k c.join.new.self w f.0 held.cell f.1 f.2 olds c.args.ask c.args.by c.args.reply ticket has f.4 all too c.requires.server (subst SyncsMayDraw c.requires.its c.a_sync_is_acknowledged.ensures) c.draw_law.ensures.excused
          (subst (λ (v : View). MayAnswerAll k.is_visible held.cell olds v c.args.reply) (sym joined) may));
    }

pub returns : goal.returns
returns g c =
    let f = c.requires.guest in
    let own = c.args.right.now in
    let x = c.args.noted.now in
    let n = c.draw_with_files-ticket.result in
    let fresh = replied_to c.args.ask c.args.by c.args.reply in
    let entry = c.entry_at-entry.result in
    let z = c.draw_with_files-ticket.new.hand in
    let t = c.draw_with_files-ticket.ensures in
    let is : entry ≡ entry_of n fresh = c.entry_at-entry.ensures ∙ ap (entry_of n) c.reply_to-fresh.ensures in
    let joined = c.join.ensures ∙ ap (both_of c.args.guest) c.split-own.ensures.given in
    let drew = subst (λ (q : Fresh × View). HasDrawnStill n q.0 q.1 z) (λ i. (c.reply_to-fresh.ensures i, joined i)) t.drawn in
    let its : HasDrawnStill entry.ticket (fresh_of entry) (both_of c.args.guest (given_of Names own)) z = subst (λ (e : Entry). HasDrawnStill e.ticket (fresh_of e) (both_of c.args.guest (given_of Names own)) z) (sym is) drew in
    let of_ask : IsEntryOf c.args.ask c.args.by entry.ticket entry = subst (λ (e : Entry). IsEntryOf c.args.ask c.args.by e.ticket e) (sym is) (record { ticket_is = refl; client = refl; seq = refl; server = refl; asked = refl }) in
    let back = c.join-2.ensures ∙ (λ i. both_of (c.split-own.ensures.kept i) (c.split-own-2.ensures.given i)) in
    let left = c.split-own-2.ensures.kept in
    let a : HaveAnswered x own c.join-2.new.self c.args.reply c.args.ask c.args.by entry c.args.guest c.split-own-2.new.self =
    subst (λ (q : View × View). HaveAnswered x own q.0 c.args.reply c.args.ask c.args.by entry c.args.guest q.1) (λ i. (sym back i, sym left i))
    (have_answered own c.args.guest x c.requires.held c.requires.calm c.args.ask c.args.by c.args.reply entry of_ask (ap (λ (e : Entry). e.reply) is) f.0 f.1 f.2 f.3 z its) in
    record { held = a.held; calm = a.calm; same = a.same; files = t.files; answered = a.answered_by }

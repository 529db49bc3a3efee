use Rattle.std.proofs.Common.{◌≡◌, ℕ, ap, sym, subst, ◌∙◌}
use Rattle.ufs_joint.specs.Cells.{NamesCell, View, both_of, given_of, kept_of}
use Rattle.ufs_model.specs.declared.data.PartName.TheVariants.{Names}
use Rattle.ufs_held.specs.Drawn.{fresh_of}
use Rattle.ufs_held.specs.Together.{HasDrawnStill}
use Rattle.ufs_held.proofs.Together.{drawn_still}
use Rattle.ufs_held_names.specs.Dirs.{IsNamesGuest, MayAnswer}
use Rattle.ufs_held_names.proofs.After.{first_held}
use Rattle.ufs_held_names.proofs.Answered.{HaveAnswered, have_answered}
use Rattle.ufs_held_names.proofs.Answering.{joined_guest, may_answer, may_joined}
use Rattle.ufs_held_names.proofs.dirs.answer.Goals as goal

pub draw_reply-entry-requires : goal.draw_reply-entry-requires
draw_reply-entry-requires g c =
    let f = c.requires.guest in
    let held = c.requires.held in
    let own = c.args.right.now in
    let x = c.args.noted.now in
    let k = g.N.Naming.start in
    let joined = c.join.ensures ∙ ap (both_of c.args.guest) c.split-own.ensures.given in
    let may = may_joined own c.args.guest x held k.is_visible c.args.reply (subst (λ (q : NamesCell). MayAnswer k.is_visible q c.args.guest c.args.reply) (first_held x own held) c.requires.may) in
    record {
      may = λ ticket. may_answer k c.join.new.self f.0 held.cell f.1 f.2 c.args.ask c.args.by c.args.reply ticket
          (subst (IsNamesGuest c.args.ask.client f.0 held.cell f.1 f.2) (sym joined) (joined_guest own c.args.guest x held c.args.ask.client f.0 f.1 f.2 f.3)) f.4 c.requires.server
          c.a_directory_is_acknowledged.ensures c.a_names_excuse_is_drawn.ensures (subst (λ (v : View). MayAnswer k.is_visible held.cell v c.args.reply) (sym joined) may);
    }

pub returns : goal.returns
returns g c =
    let f = c.requires.guest in
    let own = c.args.right.now in
    let x = c.args.noted.now in
    let entry = c.draw_reply-entry.result in
    let z = c.draw_reply-entry.new.hand in
    let t = c.draw_reply-entry.ensures in
    let joined = c.join.ensures ∙ ap (both_of c.args.guest) c.split-own.ensures.given in
    let drew = subst (λ (v : View). HasDrawnStill entry.ticket (fresh_of entry) v z) joined (drawn_still entry.ticket (fresh_of entry) c.join.new.self z t.cells t.later) in
    let back = c.join-2.ensures ∙ (λ i. both_of (c.split-own.ensures.kept i) (c.split-own-2.ensures.given i)) in
    let left = c.split-own-2.ensures.kept in
    let a : HaveAnswered x own c.join-2.new.self c.args.reply c.args.ask c.args.by entry c.args.guest c.split-own-2.new.self =
    subst (λ (q : View × View). HaveAnswered x own q.0 c.args.reply c.args.ask c.args.by entry c.args.guest q.1) (λ i. (sym back i, sym left i))
    (have_answered own c.args.guest x c.requires.held c.requires.calm c.args.ask c.args.by c.args.reply entry t.entry t.replied f.0 f.1 f.2 f.3 z drew) in
    record { held = a.held; calm = a.calm; same = a.same; answered = a.answered_by }

use Rattle.std.proofs.Common.{◌≡◌, ◌≤◌, ap, refl, sym, subst, ◌∙◌}
use Rattle.ufs_file.specs.Hand.{IsEntryOf}
use Rattle.ufs_joint.specs.Draws.{drawn}
use Rattle.ufs_joint.specs.Cells.{View}
use Rattle.ufs_joint.specs.Rule.{MayDrawAny}
use Rattle.ufs_model.specs.declared.data.Entry.{Entry}
use Rattle.ufs_hand_laws.specs.Draws.{entry_of}
use Rattle.ufs_hand_laws.specs.declared.fresh.Fresh.{Fresh}
use Rattle.ufs_held.specs.Drawn.{fresh_of, replied_to}
use Rattle.ufs_held.specs.Together.{still_of}
use Rattle.ufs_held.proofs.replies.draw_reply.Goals as goal

pub draw_still-ticket-requires : goal.draw_still-ticket-requires
draw_still-ticket-requires g c = record { may = subst (λ (f : Fresh). MayDrawAny g.N.Naming.start c.args.hand.now f (λ n. still_of c.args.hand.now)) (sym c.reply_to-fresh.ensures) c.requires.may }

pub returns : goal.returns
returns g c =
    let n = c.draw_still-ticket.result in
    let f = replied_to c.args.ask c.args.by c.args.reply in
    let is : c.entry_at.result ≡ entry_of n f = c.entry_at.ensures ∙ ap (entry_of n) c.reply_to-fresh.ensures in
    let v = c.args.hand.now in
    let cells = c.draw_still-ticket.ensures.cells ∙ ap (λ (q : Fresh). drawn n q (still_of v) v) c.reply_to-fresh.ensures in
    record {
      entry = subst (λ (e : Entry). IsEntryOf c.args.ask c.args.by e.ticket e) (sym is) (record { ticket_is = refl; client = refl; seq = refl; server = refl; asked = refl });
      replied = ap (λ (e : Entry). e.reply) is;
      cells = cells ∙ ap (λ (e : Entry). drawn e.ticket (fresh_of e) (still_of v) v) (sym is);
      later = subst (λ (e : Entry). v.seen ≤ e.ticket) (sym is) c.draw_still-ticket.ensures.later;
    }

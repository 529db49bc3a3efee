use Rattle.std.proofs.Common.{◌++◌, ◌∷◌, ◌∙◌, [], None, Some, ap, sym, subst}
use Rattle.ufs_hand_laws.specs.Draws.{entry_of, left_faults}
use Rattle.ufs_hand_laws.specs.Parts.{View}
use Rattle.ufs_one_hand.specs.Drawn.{IsAnswer, told_as}
use Rattle.ufs_one_hand.specs.Apart.{HasEachFile}
use Rattle.ufs_one_hand.specs.OneHand.{HasSession}
use Rattle.ufs_one_hand.proofs.Drawn.{each_after_in, session_after_in}
use Rattle.ufs_one_hand.proofs.Draws.{may_draw_in}
use Rattle.ufs_one_hand.proofs.Tickets.{tickets_are}
use Rattle.ufs_one_hand.proofs.Told.{alike_faults}
use Rattle.ufs_one_hand.proofs.hand.OneHand.draw.Goals as goal

pub draw_as-requires : goal.draw_as-requires
draw_as-requires g c =
    let a = c.requires.answer in
    let f = told_as g.A.Answering.reply c.args.fresh.now in
    may_draw_in c.a_request_is_local.ensures g.N.Naming.start a.0 g.A.Answering.before f g.A.Answering.fds c.self.inside.hand
    (subst (λ (v : View). IsAnswer g.N.Naming.start a.0 g.A.Answering.before f g.A.Answering.fds v) (sym c.self.view_is) a.1)

pub returns-clause-ticket : goal.returns-clause-ticket
returns-clause-ticket g c = λ history s.
    let f = c.args.fresh.now in
    tickets_are g.N.Naming.start history (Some (f.client, f.op)) c.self.inside.hand c.draw_as.result (subst (HasSession g.N.Naming.start history (Some (f.client, f.op))) (sym c.self.view_is) s) c.draw_as.ensures.history

pub returns-clause-session : goal.returns-clause-session
returns-clause-session g c = λ history a.
    let k = g.N.Naming.start in
    let f = told_as g.A.Answering.reply c.args.fresh.now in
    let b = subst (IsAnswer k history g.A.Answering.before f g.A.Answering.fds) (sym c.self.view_is) a in
    subst (HasSession k (history ++ entry_of c.draw_as.result f ∷ []) None) (sym c.draw_as.ensures.parts)
    (session_after_in c.a_request_keeps_the_tree.ensures c.a_request_is_local.ensures k history g.A.Answering.before f g.A.Answering.fds c.self.inside.hand c.draw_as.result
    (tickets_are k history (Some (f.client, f.op)) c.self.inside.hand c.draw_as.result b.session c.draw_as.ensures.history) b)

pub returns-clause-apart : goal.returns-clause-apart
returns-clause-apart g c = λ history files a each.
    let k = g.N.Naming.start in
    let f = told_as g.A.Answering.reply c.args.fresh.now in
    let b = subst (IsAnswer k history g.A.Answering.before f g.A.Answering.fds) (sym c.self.view_is) a in
    subst (λ (v : View). HasEachFile k (history ++ entry_of c.draw_as.result f ∷ []) v files) (sym c.draw_as.ensures.parts)
    (each_after_in c.a_request_keeps_the_tree.ensures c.a_request_is_local.ensures k history g.A.Answering.before f g.A.Answering.fds c.self.inside.hand c.draw_as.result
    (tickets_are k history (Some (f.client, f.op)) c.self.inside.hand c.draw_as.result b.session c.draw_as.ensures.history) b files (subst (λ (v : View). HasEachFile k history v files) (sym c.self.view_is) each))

pub returns-clause-faults : goal.returns-clause-faults
returns-clause-faults g c =
    let r = c.args.fresh.now.reply in
    ap (λ (v : View). v.faults) c.draw_as.ensures.parts ∙ alike_faults g.N.Naming.start g.A.Answering.reply r c.self.inside.hand.faults c.requires.alike ∙ ap (λ (v : View). left_faults r v.faults) c.self.view_is

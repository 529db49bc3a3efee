use Rattle.std.proofs.Common.{◌≡◌, List, [], ◌∷◌, ◌++◌, false, ap, sym, subst, ◌∙◌}
use Rattle.ufs_model.specs.History.{IsLegal, IsInOrder, AreUnexcused, is_excused, tree_after}
use Rattle.ufs_model.specs.declared.data.Entry.{Entry}
use Rattle.ufs_model.proofs.Facts.Histories.{legal-push, tree_after-push, order-push, all-push}
use Rattle.ufs_model.proofs.PosixReplyLemmas.{legal_entry, new_fault, stepped_on, unexcused}
use Rattle.ufs_model.proofs.lists.EntryList.push.Goals as goal

pub returns-clause-legal : goal.returns-clause-legal
returns-clause-legal c = λ start legal next new.
    let is = c.in_ok-push.ensures.items ∙ ap (λ (l : List Entry). l ++ c.args.entry ∷ []) c.self.view_is in
    subst (λ (l : List Entry). IsLegal start l) (sym is) (legal-push start c.args.self.now c.args.entry legal next new)

pub returns-clause-after : goal.returns-clause-after
returns-clause-after c = λ start.
    let is = c.in_ok-push.ensures.items ∙ ap (λ (l : List Entry). l ++ c.args.entry ∷ []) c.self.view_is in
    ap (tree_after start) is ∙ tree_after-push start c.args.self.now c.args.entry

pub returns-clause-order : goal.returns-clause-order
returns-clause-order c = λ clients ordered next.
    let is = c.in_ok-push.ensures.items ∙ ap (λ (l : List Entry). l ++ c.args.entry ∷ []) c.self.view_is in
    subst (λ (l : List Entry). IsInOrder clients l) (sym is) (order-push clients c.args.self.now c.args.entry ordered next)

pub returns-clause-served : goal.returns-clause-served
returns-clause-served c = λ start after legal next. (
  returns-clause-legal c start legal (legal_entry _ _ after c.args.entry next) (new_fault _ _ after c.args.entry next c.args.self.now),
  returns-clause-after c start ∙ stepped_on _ _ after c.args.entry next,
)

pub returns-clause-unexcused : goal.returns-clause-unexcused
returns-clause-unexcused c = λ before after plain next.
    let is = c.in_ok-push.ensures.items ∙ ap (λ (l : List Entry). l ++ c.args.entry ∷ []) c.self.view_is in
    subst AreUnexcused (sym is) (all-push (λ (e : Entry). is_excused e.reply ≡ false) c.args.self.now c.args.entry plain (unexcused _ before after c.args.entry next))

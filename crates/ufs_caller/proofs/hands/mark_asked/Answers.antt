use Rattle.std.proofs.Common.{◌≤◌, ℕ, sym, subst, ap, ◌∙◌}
use Rattle.ufs_joint.specs.Cells.{View}
use Rattle.ufs_joint.specs.Rule.{IsEvent}
use Rattle.ufs_caller.specs.Hands.{IsLeft}
use Rattle.ufs_caller.proofs.Asking.{asks, may_ask}
use Rattle.ufs_caller.proofs.hands.mark_asked.Goals as goal

pub mark-requires-clause-may : goal.mark-requires-clause-may
mark-requires-clause-may g c =
    let b = c.requires.both in
    let k = g.N.Naming.start in
    let ask = c.args.ask.now in
    subst (λ (f : ℕ → View). IsEvent k c.args.hand.now f) (sym c.requires.leaves) (may_ask ask.client b.0 b.1 c.args.hand.now b.2 k ask.op b.3 b.4)

pub returns-clause-later : goal.returns-clause-later
returns-clause-later g c = subst (λ (v : View). c.args.hand.now.seen ≤ v.seen) (sym (c.mark.ensures.cells ∙ ap (λ (f : ℕ → View). f c.mark.result) c.requires.leaves)) c.mark.ensures.later

pub returns-clause-left : goal.returns-clause-left
returns-clause-left g c = λ self before b.
    let ask = c.args.ask.now in
    subst (IsLeft ask.client ask.op self) (sym (c.mark.ensures.cells ∙ ap (λ (f : ℕ → View). f c.mark.result) c.requires.leaves)) (asks ask.client self before c.args.hand.now b ask.op c.mark.result)

use Rattle.std.proofs.Common.{◌≡◌, sym, subst, ap, ◌∙◌}
use Rattle.ufs_joint.specs.Cells.{given_of, kept_of}
use Rattle.ufs_joint.specs.Known.{Knows}
use Rattle.ufs_joint.specs.Rule.{looked_at}
use Rattle.ufs_model.specs.declared.data.Ask.{Ask}
use Rattle.ufs_model.specs.declared.data.PartName.TheVariants.{Client}
use Rattle.ufs_msg.specs.Requests.{Asked, IsAsked}
use Rattle.ufs_caller.specs.Hands.{HasAskedAlone, IsStillAsked}
use Rattle.ufs_caller.proofs.Back.{asked_again, away_again, is_still}
use Rattle.ufs_caller.proofs.hands.see_by.Goals as goal

pub new-requires : goal.new-requires
new-requires g c =
    let k = g.N.Naming.start in
    let r = c.into_parts-back.result in
    let ask = r.1 in
    let is : ask ≡ c.args.request.ask = ap (λ (x : Asked). x.ask) c.into_parts-back.ensures.same in
    let a = c.requires.away in
    let alone : HasAskedAlone ask.client a.0 c.args.hand.now = subst (λ (x : Ask). HasAskedAlone x.client a.0 c.args.hand.now) (sym is) a.2 in
    subst (IsAsked k ask) (sym (c.split-own.ensures.given ∙ ap (given_of (Client ask.client)) (c.look.ensures.cells ∙ (λ i. looked_at (c.join.ensures i) c.look.result))))
    (asked_again k c.look.result ask c.args.hand.now r.0 c.into_parts-back.ensures.asked a.0 alone (subst (Knows k c.look.result) c.join.ensures c.look.ensures.knows))

pub returns-clause-away : goal.returns-clause-away
returns-clause-away g c = λ before has.
    let k = g.N.Naming.start in
    let r = c.into_parts-back.result in
    let ask = r.1 in
    let is : ask ≡ c.args.request.ask = ap (λ (x : Asked). x.ask) c.into_parts-back.ensures.same in
    let alone : HasAskedAlone ask.client before c.args.hand.now = subst (λ (x : Ask). HasAskedAlone x.client before c.args.hand.now) (sym is) has in
    subst (λ (x : Ask). HasAskedAlone x.client before c.split-own.new.self) is
    (subst (HasAskedAlone ask.client before) (sym (c.split-own.ensures.kept ∙ ap (kept_of (Client ask.client)) (c.look.ensures.cells ∙ (λ i. looked_at (c.join.ensures i) c.look.result))))
    (away_again k c.look.result ask c.args.hand.now r.0 c.into_parts-back.ensures.asked before alone (subst (Knows k c.look.result) c.join.ensures c.look.ensures.knows)))

pub returns-clause-still : goal.returns-clause-still
returns-clause-still g c = λ before asked has was.
    let k = g.N.Naming.start in
    let r = c.into_parts-back.result in
    let ask = r.1 in
    let is : ask ≡ c.args.request.ask = ap (λ (x : Asked). x.ask) c.into_parts-back.ensures.same in
    let alone : HasAskedAlone ask.client before c.args.hand.now = subst (λ (x : Ask). HasAskedAlone x.client before c.args.hand.now) (sym is) has in
    subst (IsStillAsked before) is
    (is_still k c.look.result ask c.args.hand.now r.0 c.into_parts-back.ensures.asked before alone (subst (Knows k c.look.result) c.join.ensures c.look.ensures.knows))

use Rattle.std.proofs.Common.{sym, subst, ◌∙◌}
use Rattle.ufs_joint.specs.Known.{Knows}
use Rattle.ufs_joint.specs.Rule.{looked_at}
use Rattle.ufs_caller.specs.Hands.{IsBack}
use Rattle.ufs_caller.proofs.Back.{is_back}
use Rattle.ufs_caller.proofs.hands.take_home.Goals as goal

pub returns : goal.returns
returns g c = λ before request alone asked closed.
    let k = g.N.Naming.start in
    let told = c.requires.told in
    let n = c.look.result in
    subst (IsBack before c.args.entry.now c.args.desc) (sym (c.look.ensures.cells ∙ (λ i. looked_at (c.join.ensures i) n)))
    (is_back k n c.args.entry.now c.args.desc told.0 told.1 c.args.hand.now c.args.back told.2 before request alone asked closed
    (subst (Knows k n) c.join.ensures c.look.ensures.knows))

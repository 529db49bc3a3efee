use Rattle.ufs_scan.specs.Edits.{effects}
use Rattle.std.proofs.Common.{◌++◌, ◌∷◌, [], subst, sym}
use Rattle.ufs_scan.specs.Edits as by
use Rattle.ufs_scan.proofs.Edits.{nets_more, net_last}
use Rattle.ufs_scan.proofs.steps.Step.after_steps.Goals as goal

pub returns-in-Some-clause-nets : goal.returns-in-Some-clause-nets
returns-in-Some-clause-nets c =
    nets_more c.args.steps.now c.behind.result c.requires
    (subst (λ (e : by.Edit). by.IsNet c.behind.result (effects c.args.steps.now ++ e.does ∷ [])) (sym c.behind.ensures.edit)
    (c.behind.ensures.net (effects c.args.steps.now) (net_last c.args.steps.now c.in-Some.last.now c.requires c.in-Some.ensures.item.3.0 c.in-Some.ensures.item.1)))

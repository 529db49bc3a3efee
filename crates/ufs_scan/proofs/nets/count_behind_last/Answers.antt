use Rattle.std.proofs.Common.{◌∙◌}
use Rattle.ufs_scan.proofs.Edits.{net_last}
use Rattle.ufs_scan.proofs.nets.count_behind_last.Goals as goal

pub returns-in-Some : goal.returns-in-Some
returns-in-Some c =
    c.from_before.ensures ∙ net_last c.args.steps.now c.in-Some.last.now c.requires c.in-Some.ensures.item.3.0 c.in-Some.ensures.item.1 c.args.count

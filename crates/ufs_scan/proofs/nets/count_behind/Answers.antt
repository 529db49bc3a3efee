use Rattle.std.proofs.Common.{◌∙◌, arith}
use Rattle.ufs_scan.proofs.NetLemmas.{behind_net}
use Rattle.ufs_scan.proofs.nets.count_behind.Goals as goal

pub returns-then-last-lt255 : goal.returns-then-last-lt255
returns-then-last-lt255 c =
    c.from_before.ensures ∙ behind_net c.args.steps.now c.args.nets.now c.in-Some.last.now c.requires.same c.requires.nets c.in-Some.ensures.item.3.0 c.in-Some.ensures.item.1 (omega (arith, c.if-last-lt255.true)) c.args.count

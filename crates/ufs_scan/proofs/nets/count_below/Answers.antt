use Rattle.std.proofs.Common.{arith}
use Rattle.ufs_scan.proofs.NetLemmas.{all_points}
use Rattle.ufs_scan.proofs.nets.count_below.Goals as goal

pub returns-then-last-index-clause-point : goal.returns-then-last-index-clause-point
returns-then-last-index-clause-point c = all_points c.args.nets.now c.in-Some.last.now c.args.index c.requires c.in-Some.ensures.item.3.0 c.in-Some.ensures.item.1 (omega (arith, c.if-last-index.true))

use Rattle.std.proofs.Common.{arith}
use Rattle.ufs_tree.proofs.PathLemmas.{parent_few, parent_more}
use Rattle.ufs_tree.proofs.path.parent.Goals as goal

pub returns-then-end-le1 : goal.returns-then-end-le1
returns-then-end-le1 c = parent_few c.args.path.now c.name_start-end.result c.name_start-end.ensures c.requires c.if-end-le1.true

pub returns-else-end-le1 : goal.returns-else-end-le1
returns-else-end-le1 c = parent_more c.args.path.now c.name_start-end.result c.name_start-end.ensures c.requires (omega (arith, c.if-end-le1.false))

use Rattle.std.proofs.Common.{◌∙◌}
use Rattle.ufs_dir_tree.proofs.SpaceLemmas.{one_more}
use Rattle.ufs_dir_tree.proofs.space.give_block.Goals as goal

pub returns : goal.returns
returns c = c.give.ensures ∙ one_more c.args.pool.now c.args.block

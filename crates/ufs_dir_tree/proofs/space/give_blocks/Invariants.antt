use Rattle.std.proofs.Common.{take}
use Rattle.ufs_dir_tree.proofs.GivenBlocks.{HasGiven}
use Rattle.ufs_dir_tree.proofs.space.give_blocks.Given as goal

abbrev pub invariant-loop-block : goal.invariant-loop-block
invariant-loop-block l = HasGiven l.pool l.fn.pool (take l.block-index l.blocks)

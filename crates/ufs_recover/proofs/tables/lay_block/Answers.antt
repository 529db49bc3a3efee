use Rattle.std.proofs.Common.{replicate, ◌∙◌, ap, arith}
use Rattle.ufs_recover.proofs.Blocks.{bitmap_block, root_block, empty_block}
use Rattle.ufs_recover.proofs.tables.lay_block.Goals as goal

pub returns-then-block-inodes : goal.returns-then-block-inodes
returns-then-block-inodes c = bitmap_block c.args.geometry.now c.args.block c.first_of_data.result c.fill_bitmap.new.bytes c.first_of_data.ensures c.requires.from (omega arith) (omega arith) c.fill_bitmap.ensures

pub returns-then-block-inodes-2 : goal.returns-then-block-inodes-2
returns-then-block-inodes-2 c = root_block c.args.geometry.now c.args.block c.put_root.new.bytes c.clear.new.bytes (omega arith) (c.clear.ensures ∙ ap (λ n. replicate n 0) c.requires.sized) c.put_root.ensures

pub returns-else-block-inodes-2 : goal.returns-else-block-inodes-2
returns-else-block-inodes-2 c = empty_block c.args.geometry.now c.args.block c.clear.new.bytes (omega arith) (c.clear.ensures ∙ ap (λ n. replicate n 0) c.requires.sized)

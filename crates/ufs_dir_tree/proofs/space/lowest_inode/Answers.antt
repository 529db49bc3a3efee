use Rattle.std.proofs.Common.{◌≡◌, ◌∙◌}
use Rattle.ufs_bitmap.specs.Space.{Space}
use Rattle.ufs_dir_tree.proofs.SpaceLemmas.{back_again, taken_absent}
use Rattle.ufs_dir_tree.proofs.space.lowest_inode.Goals as goal

pub give_inode-requires-clause-used : goal.give_inode-requires-clause-used
give_inode-requires-clause-used c = taken_absent c.args.free.now.free c.take_inode.new.free.free c.in-Some.inode c.in-Some.ensures.taken

same_space : (s t : Space) → s.first ≡ t.first → s.blocks ≡ t.blocks → s.free ≡ t.free → s ≡ t
same_space s t first blocks free i = record { first = first i; blocks = blocks i; free = free i }

pub returns-in-Some-clause-same : goal.returns-in-Some-clause-same
returns-in-Some-clause-same c =
    same_space c.give_inode.new.free c.args.free.now (c.give_inode.ensures.first ∙ c.take_inode.ensures.first) (c.give_inode.ensures.last ∙ c.take_inode.ensures.last)
    (back_again c.args.free.now.free c.take_inode.new.free.free c.give_inode.new.free.free c.in-Some.inode c.in-Some.ensures.taken c.give_inode.ensures.free)

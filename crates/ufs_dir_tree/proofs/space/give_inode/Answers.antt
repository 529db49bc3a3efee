use Rattle.std.proofs.Common.{ap, ◌∙◌}
use Rattle.ufs_bitmap.specs.Space.{Space}
use Rattle.ufs_dir_tree.proofs.SpaceLemmas.{one_more}
use Rattle.ufs_dir_tree.proofs.space.give_inode.Goals as goal

pub returns-clause-free : goal.returns-clause-free
returns-clause-free c = ap (λ (s : Space). s.free) c.give.ensures ∙ one_more c.args.free.now.free c.args.inode

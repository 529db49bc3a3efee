use Rattle.ufs_disk.specs.Moments.{reads}
use Rattle.ufs_opening.proofs.Trees.{is_tree, whole_rising}
use Rattle.ufs_opening.proofs.tree.tree_of.Goals as goal

pub from_vec-requires : goal.from_vec-requires
from_vec-requires g c = whole_rising c.in_ok-heads.heads.items c.in_ok-entries.entries.items c.in_ok-entries.ensures c.in_ok-heads.ensures.rising

pub returns-clause-tree : goal.returns-clause-tree
returns-clause-tree g c visible =
    is_tree (g.D.Disk.size c.args.disk.now) (reads (g.D.Disk.moments c.args.disk.now)) c.in_ok-heads.heads.items c.in_ok-entries.entries.items c.from_vec.result g.D.Disk.visible visible c.in_ok-heads.ensures.heads c.in_ok-entries.ensures c.from_vec.ensures.entries

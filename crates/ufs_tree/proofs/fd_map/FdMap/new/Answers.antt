use Rattle.ufs_tree.proofs.HolderLemmas.{none_open}
use Rattle.ufs_tree.proofs.fd_map.FdMap.new.Goals as goal

pub invariant_of-result : goal.invariant_of-result
invariant_of-result c = none_open c.new.result c.new-2.result c.new.ensures c.new-2.ensures

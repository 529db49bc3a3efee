use Rattle.ufs_tree.proofs.CountedLemmas.{none_counted}
use Rattle.ufs_tree.proofs.path_map.PathMap.new.Goals as goal

pub invariant_of-result : goal.invariant_of-result
invariant_of-result c = none_counted c.new.result c.new-2.result c.new-3.result c.new.ensures c.new-2.ensures c.new-3.ensures

use Rattle.std.proofs.Common.{◌≡◌, take}
use Rattle.ufs_tree.specs.Moved.{with_other_front}
use Rattle.ufs_tree.proofs.path_map.moved.Given as goal

abbrev pub invariant-loop-entry : goal.invariant-loop-entry
invariant-loop-entry l = l.news.items ≡ with_other_front l.from l.to (take l.entry-index l.nodes)

use Rattle.std.proofs.Common.{◌≡◌, ◌-◌, drop}
use Rattle.ufs_model.specs.PathEntries.{are_rising}
use Rattle.ufs_model.proofs.path_tree.PathTree.are_rising.Given as goal

abbrev pub invariant-loop-i : goal.invariant-loop-i
invariant-loop-i l = are_rising l.entries ≡ are_rising (drop (l.i - 1) l.entries)

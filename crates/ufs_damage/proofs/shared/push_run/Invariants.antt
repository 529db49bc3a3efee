use Rattle.std.proofs.Common.{List, ◌≡◌, ◌++◌}
use Rattle.std.specs.List.{filter_map, range_with_len}
use Rattle.ufs_image.specs.Nodes.{Node}
use Rattle.ufs_image.specs.Damage.{holders, shared_block}
use Rattle.ufs_damage.specs.Marks.{AreMarks}
use Rattle.ufs_damage.proofs.shared.push_run.Given as goal

abbrev pub invariant-loop-k : goal.invariant-loop-k
invariant-loop-k l = (nodes : List Node) → AreMarks l.marks (holders nodes) → l.list ≡ l.fn.list ++ filter_map (shared_block nodes) (range_with_len l.first l.k)

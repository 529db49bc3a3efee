use Rattle.std.proofs.Common.{◌≡◌, List, ℕ, take}
use Rattle.std.specs.FinMap as map
use Rattle.ufs_tree.specs.Moved.{put_over}
use Rattle.ufs_tree.proofs.path_map.PathMap.add_all.Given as goal

abbrev pub invariant-loop-i : goal.invariant-loop-i
invariant-loop-i l = (path : List ℕ) → map.get l.self path ≡ put_over (take l.i l.nodes) (map.get l.initial.self path) path

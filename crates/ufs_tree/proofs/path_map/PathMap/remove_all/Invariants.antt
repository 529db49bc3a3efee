use Rattle.std.proofs.Common.{◌≡◌, List, ℕ, take}
use Rattle.std.specs.FinMap as map
use Rattle.ufs_tree.specs.Moved.{taken_away}
use Rattle.ufs_tree.proofs.path_map.PathMap.remove_all.Given as goal

abbrev pub invariant-loop-entry : goal.invariant-loop-entry
invariant-loop-entry l = (path : List ℕ) → map.get l.self path ≡ taken_away (take l.entry-index l.nodes) (map.get l.initial.self path) path

-- A list of paths with what stands there, seen as a map.
use Rattle.std.specs.Prelude.{ℕ, List, Bool, map}
use Rattle.std.specs.FinMap.{is_sorted, from_entries}
use Rattle.ufs_model.specs.Order.{path_cmp}
use Rattle.ufs_model.specs.Start.{PathNodes}
use Rattle.ufs_model.specs.declared.data.PathEntry.{PathEntry}
use Rattle.ufs_model.specs.declared.data.PathNode.{PathNode}

-- each path with its node
abbrev pub pairs_of : List PathEntry → List (List ℕ × PathNode)
pairs_of es = map (λ (e : PathEntry). (e.path, e.node)) es

-- each path is below those after it, by their bytes
abbrev pub are_rising : List PathEntry → Bool
are_rising es = is_sorted path_cmp (pairs_of es)

abbrev pub nodes_of : List PathEntry → PathNodes
nodes_of es = from_entries (pairs_of es)

-- Nodes that are put at paths and taken away, many at once, and paths with a new beginning.
use Rattle.std.specs.Prelude.{ℕ, List, ◌++◌, length, drop, map, Option, Some, None, is_some, if◌then◌else◌}
use Rattle.std.specs.FinMap.{find}
use Rattle.ufs_model.specs.Order.{path_cmp}
use Rattle.ufs_model.specs.declared.data.Node.{Node}

-- the left one, or else the right one
abbrev pub or_else : Option Node → Option Node → Option Node
or_else None other = other
or_else (Some node) other = Some node

-- what stands at a path once these nodes are put over what stood there
abbrev pub put_over : List (List ℕ × Node) → Option Node → List ℕ → Option Node
put_over nodes before path = or_else (find path_cmp path nodes) before

-- and once what stands at their paths is taken away
abbrev pub taken_away : List (List ℕ × Node) → Option Node → List ℕ → Option Node
taken_away nodes before path = if is_some (find path_cmp path nodes) then None else before

-- the nodes, their paths with other bytes in the place of the first
abbrev pub with_other_front : List ℕ → List ℕ → List (List ℕ × Node) → List (List ℕ × Node)
with_other_front from to nodes = map (λ e. (to ++ drop (length from) e.0, e.1)) nodes

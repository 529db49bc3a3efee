-- Lists of nodes, by the lists' numbers.
use Rattle.std.specs.Prelude.{◌≡◌, ℕ, ◌==◌, nat_eq, Bool, true, false, not, if◌then◌else◌, List, [], ◌∷◌, filter, Option, None, slice_get, slice_index_or}
use Rattle.std.specs.List.{list_any}

-- whether the node is on the list
abbrev pub has : List ℕ → ℕ → Bool
has nodes node = list_any (nat_eq node) nodes

-- the list without the node, the others in their order
abbrev pub without : ℕ → List ℕ → List ℕ
without node nodes = filter (λ n. not (n == node)) nodes

-- the node that follows this one
abbrev pub next_in : List ℕ → ℕ → Option ℕ
next_in [] node = None
next_in (n ∷ nodes) node = if n == node then slice_get nodes 0 else next_in nodes node

-- the nodes of a list, by its number, in order
abbrev pub nodes_in : List (List ℕ) → ℕ → List ℕ
nodes_in lists list = slice_index_or lists list []

-- the node is on none of the lists
abbrev pub IsOnNone : List (List ℕ) → ℕ → Type 0
IsOnNone lists node = (list : ℕ) → has (nodes_in lists list) node ≡ false

-- the node is on one of the lists
abbrev pub IsOnOne : List (List ℕ) → ℕ → Type 0
IsOnOne lists node = (list : ℕ) × (has (nodes_in lists list) node ≡ true)

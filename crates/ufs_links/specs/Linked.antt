-- Nodes that are given out, and the lists of two kinds that they are on.
use Rattle.std.specs.Prelude.{ℕ, ◌≤◌, ◌^◌, ⊤, List, refl}
use Rattle.std.specs.Coded.{Coded, code_by, coded×, coded_list, coded_ℕ}
use Rattle.std.specs.Ordering.{nat_cmp}
use Rattle.std.specs.FinSet as set
use Rattle.ufs_base.specs.declared.lack.Lack.{Lack}
use Rattle.ufs_base.specs.declared.lack.Lack.TheVariants.{Memory, AtEnd, Unsound, Told}
use Rattle.ufs_links.specs.declared.links.Which.{Which}
use Rattle.ufs_links.specs.declared.links.Which.TheVariants.{First, Second}
use Rattle.ufs_links.specs.Nodes.{nodes_in}
use Rattle.ufs_links.specs.NodeLists.{empty_lists}

-- the nodes that are given out, how many more can be without memory, and for each kind the nodes of each list number
-- of 32 bits
pub record Linked : Type 0 where
  pub given : set.FinSet nat_cmp
  pub spare : ℕ
  pub first : List (List ℕ)
  pub second : List (List ℕ)

-- stored as nested pairs
abbrev pub linked_code : Coded Linked
linked_code = code_by (set.FinSet nat_cmp × (ℕ × (List (List ℕ) × List (List ℕ)))) (coded× (set.code coded_ℕ) (coded× coded_ℕ (coded× (coded_list (coded_list coded_ℕ)) (coded_list (coded_list coded_ℕ)))))
    (λ l. (l.given, (l.spare, (l.first, l.second)))) (λ p. record { given = p.0; spare = p.1.0; first = p.1.1.0; second = p.1.1.1 }) (λ _. refl)

abbrev pub no_links : Linked
no_links = record { given = set.empty; spare = 0; first = empty_lists; second = empty_lists }

-- the lists of a kind
abbrev pub lists_in : Linked → Which → List (List ℕ)
lists_in l First = l.first
lists_in l Second = l.second

-- the nodes on a list of a kind, in order
abbrev pub nodes_of : Linked → Which → ℕ → List ℕ
nodes_of l which list = nodes_in (lists_in l which) list

-- other lists of one kind
abbrev pub with_lists_of : Linked → Which → List (List ℕ) → Linked
with_lists_of l First lists = record { given = l.given; spare = l.spare; first = lists; second = l.second }
with_lists_of l Second lists = record { given = l.given; spare = l.spare; first = l.first; second = lists }

-- For want of this there is no room for so many nodes: of memory, or of numbers for them.
abbrev pub IsLackOfNodes : ℕ → Lack → Type 0
IsLackOfNodes nodes (Memory refused) = ⊤
IsLackOfNodes nodes AtEnd = 2 ^ 32 ≤ nodes
IsLackOfNodes nodes Unsound = ⊥
IsLackOfNodes nodes Told = ⊥

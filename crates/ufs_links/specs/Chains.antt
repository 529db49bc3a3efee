-- Lists of nodes as their pointers tell them.
use Rattle.std.specs.Prelude.{◌≡◌, ◌<◌, ℕ, zero, suc, ◌+◌, true, false, List, [], ◌∷◌, length, Option, None, Some}
use Rattle.std.specs.Option.{option_map_or}
use Rattle.ufs_links.specs.declared.pointers.Ends.{Ends}
use Rattle.ufs_links.specs.declared.pointers.Pointers.{Pointers}
use Rattle.ufs_links.specs.Pointers.{after_of, before_of, list_of}
use Rattle.ufs_links.specs.Nodes.{has, nodes_in}
use Rattle.ufs_links.specs.NodeLists.{NodeLists}

-- from p on, the pointers lead through these nodes to the end, both ways
abbrev pub IsChain : (Option ℕ → Option ℕ) → (Option ℕ → Option ℕ) → Option ℕ → List ℕ → Type 0
IsChain after before p [] = (after p ≡ None) × (before None ≡ p)
IsChain after before p (n ∷ nodes) = (after p ≡ Some n) × (before (Some n) ≡ p) × IsChain after before (Some n) nodes

-- no node stands twice
abbrev pub AreApart : List ℕ → Type 0
AreApart [] = Unit {0}
AreApart (n ∷ nodes) = (has nodes n ≡ false) × AreApart nodes

-- the pointers are those of these lists
pub record Stands (p : Pointers) (lists : List (List ℕ)) : Type 0 where
  pub count : length lists ≡ length p.ends.items
  pub chains : (l : ℕ) → l < length lists → IsChain (after_of p l) (before_of p l) None (nodes_in lists l)
  pub members : (l n : ℕ) → has (nodes_in lists l) n ≡ true → list_of p n ≡ Some l
  pub on : (l n : ℕ) → list_of p n ≡ Some l → has (nodes_in lists l) n ≡ true
  pub apart : (l : ℕ) → AreApart (nodes_in lists l)

-- at most so many nodes, from what follows p on
abbrev pub walk : (Option ℕ → Option ℕ) → ℕ → Option ℕ → List ℕ
walk after zero p = []
walk after (suc most) p = option_map_or (λ n. n ∷ walk after most (Some n)) (after p) []

abbrev pub walks : Pointers → ℕ → List Ends → List (List ℕ)
walks p l [] = []
walks p l (e ∷ ends) = walk (after_of p l) (length p.places.items) None ∷ walks p (l + 1) ends

-- the lists that the pointers lead through
unfoldable pub lists_of : Pointers → List (List ℕ)
lists_of p = walks p 0 p.ends.items

abbrev pub node_lists : Pointers → NodeLists
node_lists p = record { nodes = length p.places.items; lists = lists_of p }

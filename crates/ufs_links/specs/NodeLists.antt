-- Lists of nodes as a value.
use Rattle.std.specs.Prelude.{ℕ, ◌^◌, List, [], map, refl}
use Rattle.std.specs.List.{range_with_len}
use Rattle.std.specs.Coded.{Coded, code_by, coded×, coded_list, coded_ℕ}

-- how many nodes there are places for, and the lists, by their numbers
pub record NodeLists : Type 0 where
  pub nodes : ℕ
  pub lists : List (List ℕ)

-- stored as the pair of its parts
abbrev pub node_lists_code : Coded NodeLists
node_lists_code = code_by (ℕ × List (List ℕ)) (coded× coded_ℕ (coded_list (coded_list coded_ℕ))) (λ l. (l.nodes, l.lists)) (λ p. record { nodes = p.0; lists = p.1 }) (λ _. refl)

-- other lists of the same nodes
abbrev pub with_lists : NodeLists → List (List ℕ) → NodeLists
with_lists l lists = record { nodes = l.nodes; lists = lists }

-- the numbers below a limit
unfoldable pub numbers_below : ℕ → List ℕ
numbers_below limit = range_with_len 0 limit

-- the numbers that lists can have: those of 32 bits
abbrev pub list_numbers : List ℕ
list_numbers = numbers_below (2 ^ 32)

-- each list is empty
abbrev pub empty_lists : List (List ℕ)
empty_lists = map (λ _. []) list_numbers

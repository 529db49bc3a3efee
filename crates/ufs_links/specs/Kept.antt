-- How the nodes that are given out are kept: those below `used` that weren't released.
use Rattle.std.specs.Prelude.{◌≡◌, ◌<◌, ◌≤◌, ◌+◌, ◌-◌, ℕ, zero, suc, true, false, not, List, [], ◌∷◌, length, filter, vec_capacity}
use Rattle.std.specs.Ordering.{nat_cmp}
use Rattle.std.specs.FinSet as set
use Rattle.ufs_links.specs.declared.links.Links.TheInside.{Inside}
use Rattle.ufs_links.specs.Nodes.{has, nodes_in}
use Rattle.ufs_links.specs.Chains.{AreApart}
use Rattle.ufs_links.specs.Linked.{Linked}

-- the numbers below n
abbrev pub below : ℕ → List ℕ
below zero = []
below (suc n) = n ∷ below n

unfoldable pub given_of : ℕ → List ℕ → set.FinSet nat_cmp
given_of used released = set.from_list (filter (λ n. not (has released n)) (below used))

abbrev pub linked : Inside → Linked
linked l = record {
  given = given_of l.used l.released.items;
  spare = length l.released.items + (l.nodes - l.used);
  first = l.first.lists;
  second = l.second.lists;
}

-- each node on a list is given out
abbrev pub AreGiven : ℕ → List ℕ → List (List ℕ) → Type 0
AreGiven used released lists = (l n : ℕ) → has (nodes_in lists l) n ≡ true → (n < used) × (has released n ≡ false)

pub record IsKept (l : Inside) : Type 0 where
  pub used : l.used ≤ l.nodes
  pub released : (n : ℕ) → has l.released.items n ≡ true → n < l.used
  pub apart : AreApart l.released.items
  pub room : l.nodes ≤ vec_capacity l.released
  pub first_room : l.nodes ≤ l.first.nodes
  pub second_room : l.nodes ≤ l.second.nodes
  pub first : AreGiven l.used l.released.items l.first.lists
  pub second : AreGiven l.used l.released.items l.second.lists

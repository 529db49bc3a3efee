-- What other lists of one kind leave as it was, for callers.
use Rattle.std.proofs.Common.{◌≡◌, ◌≢◌, ◌^◌, ℕ, List, [], length, refl}
use Rattle.ufs_links.specs.declared.links.Which.{Which}
use Rattle.ufs_links.specs.declared.links.Which.TheVariants.{First, Second}
use Rattle.ufs_links.specs.Linked.{Linked, lists_in, nodes_of, no_links, with_lists_of}
use Rattle.ufs_links.proofs.NumberLemmas.{empty_list, length_numbered}

pub given-with_lists_of : (l : Linked) (which : Which) (lists : List (List ℕ)) → (with_lists_of l which lists).given ≡ l.given
given-with_lists_of l First lists = refl
given-with_lists_of l Second lists = refl

pub spare-with_lists_of : (l : Linked) (which : Which) (lists : List (List ℕ)) → (with_lists_of l which lists).spare ≡ l.spare
spare-with_lists_of l First lists = refl
spare-with_lists_of l Second lists = refl

pub lists_in-with_lists_of : (l : Linked) (which : Which) (lists : List (List ℕ)) → lists_in (with_lists_of l which lists) which ≡ lists
lists_in-with_lists_of l First lists = refl
lists_in-with_lists_of l Second lists = refl

pub lists_in-with_lists_of_other : (l : Linked) (which other : Which) (lists : List (List ℕ)) → other ≢ which → lists_in (with_lists_of l which lists) other ≡ lists_in l other
lists_in-with_lists_of_other l First First lists ne = absurd (ne refl)
lists_in-with_lists_of_other l First Second lists ne = refl
lists_in-with_lists_of_other l Second First lists ne = refl
lists_in-with_lists_of_other l Second Second lists ne = absurd (ne refl)

-- at first each list is empty, and there is one for each number of 32 bits
pub nodes_of-no_links : (which : Which) (list : ℕ) → nodes_of no_links which list ≡ []
nodes_of-no_links First list = empty_list list
nodes_of-no_links Second list = empty_list list

pub length_lists_in-no_links : (which : Which) → length (lists_in no_links which) ≡ 2 ^ 32
length_lists_in-no_links First = length_numbered (λ _. []) (2 ^ 32)
length_lists_in-no_links Second = length_numbered (λ _. []) (2 ^ 32)

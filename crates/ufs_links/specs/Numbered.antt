-- Lists by any number of 32 bits: each that isn't empty is kept in a slot, and a bucket of slots finds it by its number.
use Rattle.std.specs.Prelude.{◌≡◌, ◌<◌, ◌≤◌, ◌^◌, ◌%◌, ℕ, nat_eq, true, List, [], length, map, Option, None, slice_index_or, vec_len}
use Rattle.std.specs.List.{find}
use Rattle.std.specs.Option.{option_map_or}
use Rattle.ufs_links.specs.declared.numbered.NumberedLists.TheInside.{Inside}
use Rattle.ufs_links.specs.Nodes.{has, nodes_in}
use Rattle.ufs_links.specs.NodeLists.{NodeLists, list_numbers}

-- the nodes and the number of each slot, the slot that each node owns, and the slots in each bucket
pub record Table : Type 0 where
  pub nodes : ℕ → List ℕ
  pub number : ℕ → ℕ
  pub own : ℕ → ℕ
  pub chain : ℕ → List ℕ
  pub bucket : ℕ → ℕ

abbrev pub number_at : List ℕ → ℕ → ℕ
number_at numbers slot = slice_index_or numbers slot 0

-- a node owns the slot of its own number until it passes that on
abbrev pub own_of : List (Option ℕ) → ℕ → ℕ
own_of own node = option_map_or (λ slot. slot) (slice_index_or own node None) node

-- the bucket of a list
abbrev pub bucket_of : List (List ℕ) → ℕ → ℕ
bucket_of buckets list = list % length buckets

abbrev pub table_of : Inside → Table
table_of l = record {
  nodes = nodes_in l.slots.lists;
  number = number_at l.numbers.items;
  own = own_of l.own.items;
  chain = nodes_in l.buckets.lists;
  bucket = bucket_of l.buckets.lists;
}

-- the slot in the list's bucket that has its number
unfoldable pub slot_in : (ℕ → ℕ) → List ℕ → ℕ → Option ℕ
slot_in number chain list = find (λ slot. nat_eq (number slot) list) chain

abbrev pub slot_by : Table → ℕ → Option ℕ
slot_by t list = slot_in t.number (t.chain (t.bucket list)) list

-- the nodes of a list
unfoldable pub list_by : Table → ℕ → List ℕ
list_by t list = option_map_or t.nodes (slot_by t list) []

abbrev pub numbered : Inside → NodeLists
numbered l = record { nodes = length l.own.items; lists = map (list_by (table_of l)) list_numbers }

abbrev pub IsFilled : List ℕ → Type 0
IsFilled nodes = (n : ℕ) × (has nodes n ≡ true)

pub record IsTable (t : Table) : Type 0 where
  -- each node is in at most one slot
  pub one : (s u n : ℕ) → has (t.nodes s) n ≡ true → has (t.nodes u) n ≡ true → s ≡ u
  -- a slot that isn't empty has the node that owns it
  pub owns : (n m : ℕ) → has (t.nodes (t.own n)) m ≡ true → has (t.nodes (t.own n)) n ≡ true
  pub apart : (n m : ℕ) → t.own n ≡ t.own m → n ≡ m
  -- the buckets have the slots that aren't empty, by their numbers
  pub listed : (s n : ℕ) → has (t.nodes s) n ≡ true → has (t.chain (t.bucket (t.number s))) s ≡ true
  pub found : (b s : ℕ) → has (t.chain b) s ≡ true → (b ≡ t.bucket (t.number s)) × IsFilled (t.nodes s)
  pub once : (s u n m : ℕ) → has (t.nodes s) n ≡ true → has (t.nodes u) m ≡ true → t.number s ≡ t.number u → s ≡ u
  pub small : (s n : ℕ) → has (t.nodes s) n ≡ true → t.number s < 2 ^ 32

pub record IsNumbered (l : Inside) : Type 0 where
  pub table : IsTable (table_of l)
  -- room for each node and each slot
  pub own : (n : ℕ) → n < vec_len l.own → own_of l.own.items n < length l.slots.lists
  pub slots : vec_len l.own ≤ length l.slots.lists
  pub numbers : length l.slots.lists ≤ vec_len l.numbers
  pub listed : length l.slots.lists ≤ l.buckets.nodes
  pub nodes : vec_len l.own ≤ l.slots.nodes
  pub buckets : 0 < vec_len l.own → 0 < length l.buckets.lists
  pub known : (s n : ℕ) → has (nodes_in l.slots.lists s) n ≡ true → n < vec_len l.own
  pub few : vec_len l.numbers < 2 ^ 32

-- the buckets have the slots that aren't empty, by their numbers
pub record Finds (number : ℕ → ℕ) (nodes : ℕ → List ℕ) (buckets : List (List ℕ)) : Type 0 where
  pub listed : (s n : ℕ) → has (nodes s) n ≡ true → has (nodes_in buckets (bucket_of buckets (number s))) s ≡ true
  pub found : (b s : ℕ) → has (nodes_in buckets b) s ≡ true → (b ≡ bucket_of buckets (number s)) × IsFilled (nodes s)

-- the buckets have those below a limit
pub record AreSorted (limit : ℕ) (number : ℕ → ℕ) (nodes : ℕ → List ℕ) (buckets : List (List ℕ)) : Type 0 where
  pub listed : (s n : ℕ) → s < limit → has (nodes s) n ≡ true → has (nodes_in buckets (bucket_of buckets (number s))) s ≡ true
  pub found : (b s : ℕ) → has (nodes_in buckets b) s ≡ true → (b ≡ bucket_of buckets (number s)) × IsFilled (nodes s)
  pub below : (b s : ℕ) → has (nodes_in buckets b) s ≡ true → s < limit

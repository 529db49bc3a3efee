-- The one sound state: what holds of the views of all hands and of the word, between any two steps.
use Rattle.std.specs.Prelude.{ℕ, ◌≡◌, ◌≤◌, ◌<◌, ◌⊎◌, eqb, true, List, [], ◌∷◌, length, map, take, Option, None, Some}
use Rattle.std.specs.List.{range_with_len}
use Rattle.std.specs.FinMap as fin
use Rattle.std.specs.FinSet as set
use mathlib.Core.Option.{some}
use lib.ListN.{get_elem?}
use Rattle.ufs_bytes_laws.specs.Alike.{AreAlike}
use Rattle.ufs_base.specs.Images.{Image}
use Rattle.ufs_bitmap.specs.Blocks.{BlockSet}
use Rattle.ufs_disk.specs.Disk.{Leaves}
use Rattle.ufs_layout.specs.declared.geometry.Geometry.{Geometry}
use Rattle.ufs_model.specs.History.{IsLegal, entries_of, tree_after}
use Rattle.ufs_model.specs.PosixTree.{IsTree, PosixTree, desc_at}
use Rattle.ufs_model.specs.declared.data.Entry.{Entry}
use Rattle.ufs_model.specs.declared.data.Op.{Op}
use Rattle.ufs_promise_laws.specs.FileRequests.{with_free}
use Rattle.ufs_crash_laws.specs.Changes.{changes_of, name_changes}
use Rattle.ufs_hand_laws.specs.Asked.{IsAnswered, IsStill}
use Rattle.ufs_hand_laws.specs.DiskBytes.{state_of}
use Rattle.ufs_hand_laws.specs.Owned.{Has, Held, count, present}
use Rattle.ufs_hand_laws.specs.Parts.{AskedPart, Cells, ClientPart, Stretch, only_one}
use Rattle.ufs_store.specs.State.{geometry_of_store}
use Rattle.ufs_promise_laws.specs.OnDisk.{IsExplainedImage}
use Rattle.ufs_promise_laws.specs.Parts.{Parts}
use Rattle.ufs_promise_laws.specs.Sound.{IsSoundServer}
use Rattle.ufs_promise_laws.specs.Stored.{ArePartsOf}
use Rattle.ufs_joint.specs.Cells.{FileCell, Start, StoreCell, View, Word, World, store_of}
use Rattle.ufs_joint.specs.Faults.{AreFaultsOnce}
use Rattle.ufs_joint.specs.NoneLost.{HandHas, IsHad}
use Rattle.ufs_promise_laws.specs.Known.{IsDiskKept}
use Rattle.ufs_joint.specs.Picks.{HasPicked, IsAbsent, IsUnpicked, Pick, bytes_at}
use Rattle.ufs_joint.specs.Servers.{AreServedSo}
use Rattle.ufs_joint.specs.Whole.{AreFreeIn, ArePartsIn, ArePoolsApart, HasFileCell, HasNamesCell, known_in, no_blocks}

-- ---- each cell is in one hand

pub record IsHeld (views : List View) (G : World) : Type 0 where
  pub clients : Held eqb (λ (v : View). v.clients) views G.client
  pub asked : Held eqb (λ (v : View). v.asked) views G.asked
  pub files : Held eqb (λ (v : View). v.files) views G.file
  pub pools : Held eqb (λ (v : View). v.pools) views G.pool
  pub names : Held only_one (λ (v : View). v.names) views (λ _. Some G.names)
  pub store : Held only_one (λ (v : View). v.store) views (λ _. Some G.store)

-- clients and pools are those of the beginning
pub record DoPartsStay (k : Start) (G : World) : Type 0 where
  pub clients : (c : ℕ) → present (G.client c) ≡ count eqb c k.view.clients
  pub asked : (c : ℕ) → present (G.asked c) ≡ count eqb c k.view.asked
  pub pools : (n : ℕ) → present (G.pool n) ≡ count eqb n k.view.pools

-- ---- one history

-- Each ticket has one entry, and each client's entries are numbered in their order.
pub record AreTicketsOnce (word : Word) (history : List Entry) (clients : ℕ → Option ClientPart) : Type 0 where
  pub tickets : length history ≡ word.tickets
  pub entries : (c : ℕ) (p : ClientPart) → clients c ≡ Some p → p.entries ≡ entries_of c history
  pub numbers : (c : ℕ) → map (λ e. e.seq) (entries_of c history) ≡ range_with_len 0 (length (entries_of c history))
  pub there : (e : Entry) → Has e history → (e.client < 16) × (present (clients e.client) ≡ 1)
  pub room : (c : ℕ) → length (entries_of c history) ≤ 65536
  pub asked : (c : ℕ) (p : ClientPart) (r : Op) → clients c ≡ Some p → p.asked ≡ Some r → length p.entries < 65536

-- A client that comes back has what it had, or its answer.
pub record IsAskedTrue (word : Word) (G : World) : Type 0 where
  pub seen : (c : ℕ) (a : AskedPart) → G.asked c ≡ Some a → a.tickets ≤ word.tickets
  pub kept : (c : ℕ) (a : AskedPart) (p : ClientPart) → G.asked c ≡ Some a → G.client c ≡ Some p → IsStill a p ⊎ IsAnswered a p

-- As far as was read, the session may have begun with this tree: with the start's, where the disk is visible; else its files may have
-- other bytes, and as many.
pub record MayHaveBegun (k : Start) (picks : List Pick) (start : PosixTree) : Type 0 where
  pub tree : IsTree start
  pub alike : AreAlike start k.tree
  pub picked : HasPicked picks start
  pub seen : k.is_visible ≡ true → start ≡ k.tree

-- The history is legal from the tree, and leads to the clients' descriptors and to these parts. What isn't in memory is as it was at
-- the beginning.
pub record LeadsTo (start : PosixTree) (history : List Entry) (G : World) (p : Parts) : Type 0 where
  pub legal : IsLegal start history
  pub clients : (c : ℕ) (part : ClientPart) → G.client c ≡ Some part → (fd : ℕ) → fin.get part.fds fd ≡ desc_at (tree_after start history) c fd
  pub parts : ArePartsOf p (tree_after start history)
  pub away : (file place : ℕ) (c : FileCell) → G.file file ≡ Some c → IsAbsent c place → bytes_at (tree_after start history) file place ≡ bytes_at start file place

-- ---- the disk

-- Nothing of a cell changed behind the ticket that it tells; and what it knows as committed was so when the store's last turn began.
pub record AreChangesTold (start : PosixTree) (history : List Entry) (G : World) : Type 0 where
  pub files : (file : ℕ) (c : FileCell) → G.file file ≡ Some c → changes_of file start history ≡ changes_of file start (take c.changed history)
  pub within : (file : ℕ) (c : FileCell) → G.file file ≡ Some c → (c.changed ≤ length history) × (c.known ≤ G.store.stamp)
  pub names : name_changes start history ≡ name_changes start (take G.names.changed history)
  pub names_within : (G.names.changed ≤ length history) × (G.names.known ≤ G.store.stamp)

-- The disk as it is keeps this beginning of the history too, with parts in which each cell is as it is now that didn't change since
-- the store's last turn began.
pub record IsKeptSince (g : Geometry) (start : PosixTree) (history : List Entry) (G : World) (free : BlockSet) : Type 0 where
  pub parts : Parts
  -- the blocks that were free then
  pub freed : BlockSet
  pub kept : IsDiskKept (with_free freed (store_of G.store)) start history parts (known_in start history G)
  pub sound : IsSoundServer g freed parts
  pub pool : parts.pool ≡ no_blocks
  pub fewer : (block : ℕ) → set.contains free block ≡ true → set.contains freed block ≡ true
  pub files : (file : ℕ) (c : FileCell) → G.file file ≡ Some c → c.changed ≤ G.store.stamp → HasFileCell parts file c
  pub names : G.names.changed ≤ G.store.stamp → HasNamesCell parts G.names

-- The history explains an image with these sectors, and that is proper. What is past the disk's end doesn't matter.
abbrev pub IsExplainedWithin : ℕ → PosixTree → List Entry → Image → Type 0
IsExplainedWithin sectors start history image = (whole : Image) × ((sector : ℕ) → sector < sectors → whole sector ≡ image sector) × IsExplainedImage sectors start history whole

-- So it is with whatever a crash leaves of a disk in this state.
abbrev pub IsExplainedState : ℕ → PosixTree → List Entry → Cells → Type 0
IsExplainedState sectors start history cells = Leaves (IsExplainedWithin sectors start history) (state_of cells)

-- The stretches leave no gap from the beginning up to so many tickets, but for those in which the disk passed no state: each begins where
-- the one before it ends, or earlier, and ends no earlier.
abbrev pub AreJoined : List Stretch → ℕ → Type 0
AreJoined [] upto = upto ≡ 0
AreJoined (x ∷ past) upto = (x.from ≤ x.to) × (((x.states ≡ []) × AreJoined past upto) ⊎ ((1 ≤ length x.states) × (x.to ≡ upto) × ((y : ℕ) × (x.from ≤ y) × (y ≤ upto) × AreJoined past y)))

-- Each state of a stretch is explained by the first entries, for each number of them between its ends.
pub record ArePastExplained (start : PosixTree) (word : Word) (history : List Entry) (s : StoreCell) : Type 0 where
  pub upto : ℕ
  pub joined : AreJoined s.past upto
  pub stamped : s.stamp ≤ upto
  pub within : upto ≤ word.tickets
  pub each : (x : Stretch) → Has x s.past → (i : ℕ) → x.from ≤ i → i ≤ x.to → (cells : Cells) → Has cells x.states → IsExplainedState s.sectors start (take i history) cells
  pub ended : (x : Stretch) → Has x s.past → x.to ≤ word.tickets

pub record IsDiskSound (k : Start) (word : Word) (history : List Entry) (G : World) (p : Parts) (free : BlockSet) : Type 0 where
  pub kept : IsDiskKept (with_free free (store_of G.store)) k.tree history p (known_in k.tree history G)
  pub told : AreChangesTold k.tree history G
  pub since : (i : ℕ) → G.store.stamp ≤ i → i ≤ word.tickets → IsKeptSince k.geometry k.tree (take i history) G free
  pub past : ArePastExplained k.tree word history G.store

-- ---- the whole

pub record IsSound (k : Start) (word : Word) (views : List View) : Type 0 where
  pub history : List Entry
  pub world : World
  pub parts : Parts
  pub free : BlockSet
  pub picks : List Pick
  pub one_hand : IsHeld views world
  pub stay : DoPartsStay k world
  pub tickets_once : AreTicketsOnce word history world.client
  pub asked : IsAskedTrue word world
  pub seen : (i : ℕ) (v : View) → get_elem? views i ≡ some v → v.seen ≤ word.tickets
  pub faults_once : AreFaultsOnce k views history world.store
  -- the cells are put together so
  pub parts_in : ArePartsIn world parts
  pub free_in : AreFreeIn world free
  pub pools_apart : ArePoolsApart world
  pub server : IsSoundServer k.geometry free parts
  -- no block is lost: what the first hand has somebody has
  pub none_lost : (block : ℕ) → HandHas k.view block → IsHad parts free block
  pub formed : geometry_of_store (store_of world.store) ≡ k.geometry
  -- from each tree with which the session may have begun, of which there is one, the history leads to them
  pub begun : PosixTree
  pub may_begin : MayHaveBegun k picks begun
  pub leads : (start : PosixTree) → MayHaveBegun k picks start → LeadsTo start history world parts
  pub served : (start : PosixTree) → MayHaveBegun k picks start → AreServedSo start history
  -- and of what isn't in memory nothing was read
  pub unread : (file place : ℕ) (c : FileCell) → world.file file ≡ Some c → IsAbsent c place → IsUnpicked picks file place
  -- the disk holds them
  pub disk : k.is_visible ≡ true → IsDiskSound k word history world parts free

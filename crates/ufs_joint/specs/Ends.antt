-- What the first hand has, and what the hand with every cell knows at the end.
use Rattle.std.specs.Prelude.{ℕ, ◌≡◌, ◌≤◌, ◌⊎◌, eqb, true, List, [], ◌∷◌, length, map, take, IsSome, None, Some}
use Rattle.std.specs.List.{range_with_len}
use Rattle.std.specs.FinMap as fin
use Rattle.std.specs.FinSet as set
use Rattle.ufs_bitmap.specs.Blocks.{BlockSet}
use Rattle.ufs_model.specs.History.{IsLegal, entries_of, tree_after}
use Rattle.ufs_model.specs.PosixTree.{IsTree, PosixTree, desc_at}
use Rattle.ufs_model.specs.declared.data.Entry.{Entry}
use Rattle.ufs_crash_laws.specs.Changes.{asks_commit}
use Rattle.ufs_promise_laws.specs.FileRequests.{with_free}
use Rattle.ufs_model.specs.declared.data.Excuse.TheVariants as excuse
use Rattle.ufs_model.specs.declared.data.Reply.TheVariants as reply
use Rattle.ufs_hand_laws.specs.FaultsOnce.{told}
use Rattle.ufs_hand_laws.specs.Owned.{Has, count, find}
use Rattle.ufs_hand_laws.specs.Parts.{AskedPart, Cells, ClientPart, Stretch}
use Rattle.ufs_hand_laws.specs.Whole.{idle_asked, idle_client}
use Rattle.ufs_store.specs.State.{geometry_of_store}
use Rattle.ufs_promise_laws.specs.OnDisk.{IsOnDisk}
use Rattle.ufs_promise_laws.specs.Parts.{Parts}
use Rattle.ufs_promise_laws.specs.Sound.{IsSoundServer}
use Rattle.ufs_promise_laws.specs.Stored.{ArePartsOf}
use Rattle.ufs_joint.specs.Cells.{FileCell, NamesCell, Start, StoreCell, View, Word, store_of}
use Rattle.ufs_joint.specs.Faults.{IsOfSession, IsStopOf}
use Rattle.ufs_joint.specs.NoneLost.{HandHas}
use Rattle.ufs_promise_laws.specs.Known.{IsDiskKept, Known}
use Rattle.ufs_joint.specs.Picks.{Pick}
use Rattle.ufs_joint.specs.Servers.{AreServedSo}
use Rattle.ufs_joint.specs.Sound.{AreJoined, IsExplainedState, MayHaveBegun}
use Rattle.ufs_joint.specs.Whole.{HasCells, HasNamesCell, birth_known_by, commits_of, hand_of, no_blocks, pooled}

-- ---- the beginning

-- what is known then: births alone
abbrev pub known_first : Start → NamesCell → Known
known_first k names = record { names = 0; files = λ _. 0; born = λ file. birth_known_by k.tree [] names.named file (find eqb file k.view.files) }

-- The first hand has every cell, of a tree in which nothing is open, on a disk that has it.
pub record CanBegin (k : Start) : Type 0 where
  pub tree : IsTree k.tree
  pub closed : (c fd : ℕ) → desc_at k.tree c fd ≡ None
  pub one_client : (c : ℕ) → count eqb c k.view.clients ≤ 1
  pub one_asked : (c : ℕ) → count eqb c k.view.asked ≤ 1
  pub one_file : (file : ℕ) → count eqb file k.view.files ≤ 1
  pub clients : (c : ℕ) (p : ClientPart) → Has (c, p) k.view.clients → p ≡ idle_client
  pub asked : (c : ℕ) (a : AskedPart) → Has (c, a) k.view.asked → a ≡ idle_asked
  -- no pool has a block yet
  pub one_pool : (n : ℕ) → count eqb n k.view.pools ≤ 1
  pub pools : (n : ℕ) (s : BlockSet) → Has (n, s) k.view.pools → s ≡ no_blocks
  pub names : NamesCell
  pub has_names : k.view.names ≡ (tt, names) ∷ []
  pub store : StoreCell
  pub has_store : k.view.store ≡ (tt, store) ∷ []
  -- nothing changed yet, and nothing is known as committed
  pub unchanged : (file : ℕ) (c : FileCell) → Has (file, c) k.view.files → (c.changed ≡ 0) × (c.known ≡ 0)
  pub names_unchanged : (names.changed ≡ 0) × (names.known ≡ 0)
  pub at_rest : (store.stamp ≡ 0) × (store.past ≡ [])
  pub seen : k.view.seen ≡ 0
  pub no_faults : k.view.faults ≡ []
  pub no_stop : k.view.stop ≡ None
  -- the parts, of each tree with which the session may begin
  pub parts : Parts
  pub pool : parts.pool ≡ no_blocks
  pub files_in : (file : ℕ) → fin.get parts.files file ≡ hand_of (find eqb file k.view.files)
  pub commits_in : (file : ℕ) → fin.get parts.commits file ≡ commits_of (find eqb file k.view.files)
  pub names_in : HasNamesCell parts names
  pub are : (start : PosixTree) → MayHaveBegun k [] start → ArePartsOf parts start
  pub server : IsSoundServer k.geometry store.unassigned.free parts
  pub formed : geometry_of_store (store_of store) ≡ k.geometry
  pub on_disk : k.is_visible ≡ true → IsDiskKept (store_of store) k.tree [] parts (known_first k names)

-- ---- the end

-- The hand has every cell: each client of the beginning, names and store, and each file that the names know.
pub record HoldsAll (k : Start) (v : View) : Type 0 where
  pub clients : (c : ℕ) → count eqb c k.view.clients ≤ count eqb c v.clients
  pub pools : (n : ℕ) → count eqb n k.view.pools ≤ count eqb n v.pools
  pub names : NamesCell
  pub has_names : v.names ≡ (tt, names) ∷ []
  pub store : StoreCell
  pub has_store : v.store ≡ (tt, store) ∷ []
  pub files : (file : ℕ) → IsSome (fin.get names.value.held file) → 1 ≤ count eqb file v.files

-- The list has each client's entries and no others.
pub record IsMerge (v : View) (history : List Entry) : Type 0 where
  pub from : (e : Entry) → Has e history → (p : ClientPart) × Has (e.client, p) v.clients × Has e p.entries
  pub to : (c : ℕ) (p : ClientPart) (e : Entry) → Has (c, p) v.clients → Has e p.entries → Has e history

-- Each state of the disk is explained by the first entries, for each number of them between the ends of its stretch; the state as it
-- is by those from the last stamp on. The stretches leave no gap.
pub record IsAlwaysExplained (start : PosixTree) (word : Word) (history : List Entry) (s : StoreCell) : Type 0 where
  pub upto : ℕ
  pub joined : AreJoined s.past upto
  pub stamped : s.stamp ≤ upto
  pub within : upto ≤ word.tickets
  pub past : (x : Stretch) → Has x s.past → (i : ℕ) → x.from ≤ i → i ≤ x.to → (cells : Cells) → Has cells x.states → IsExplainedState s.sectors start (take i history) cells
  pub now : (i : ℕ) → s.stamp ≤ i → i ≤ word.tickets → IsExplainedState s.sectors start (take i history) s.state

-- One history: legal from a tree with which the session may have begun, with all tickets and each client's entries in their order, each
-- served by its client, where that answers it itself, and else by a server. The hand's cells, with no other file, are the parts of the
-- tree to which it leads, sound, and on the disk, which is always explained.
pub record IsWhole (k : Start) (word : Word) (v : View) (store : StoreCell) : Type 0 where
  pub start : PosixTree
  pub picks : List Pick
  pub begun : MayHaveBegun k picks start
  pub history : List Entry
  pub all_drawn : length history ≡ word.tickets
  pub legal : IsLegal start history
  pub served : AreServedSo start history
  pub order : (c : ℕ) → map (λ e. e.seq) (entries_of c history) ≡ range_with_len 0 (length (entries_of c history))
  pub transcripts : (c : ℕ) (p : ClientPart) → Has (c, p) v.clients → p.entries ≡ entries_of c history
  pub merged : IsMerge v history
  -- the faults that excuse entries are of this session, and a stop is that of the store
  pub faults : (n : ℕ) → 1 ≤ told n history → IsOfSession k store n
  pub stopped : (e : Entry) (n : ℕ) → Has e history → e.reply ≡ reply.Excused (excuse.Stopped n) → store.stop ≡ Some n
  pub halts : (n : ℕ) → store.stop ≡ Some n → IsStopOf k store n
  -- so is the fault that excuses a request which asks for a commit, and no other is told a stop
  pub committed : (e : Entry) (n : ℕ) → Has e history → asks_commit e.op ≡ true → e.reply ≡ reply.Excused (excuse.Device n) → store.stop ≡ Some n
  pub asked : (e : Entry) (n : ℕ) → Has e history → e.reply ≡ reply.Excused (excuse.Stopped n) → asks_commit e.op ≡ true
  pub parts : Parts
  pub cells : HasCells v parts
  pub files : (file : ℕ) → IsSome (fin.get parts.files file) → (c : FileCell) × Has (file, c) v.files
  pub once : (file : ℕ) → count eqb file v.files ≤ 1
  pub are : ArePartsOf parts (tree_after start history)
  pub free : BlockSet
  pub freed : (block : ℕ) → set.contains free block ≡ true → (set.contains store.unassigned.free block ≡ true) ⊎ (set.contains (pooled v.pools) block ≡ true)
  pub server : IsSoundServer k.geometry free parts
  -- no block is lost: each that the first hand had this one has
  pub none_lost : (block : ℕ) → HandHas k.view block → HandHas v block
  pub on_disk : k.is_visible ≡ true → IsOnDisk (with_free free (store_of store)) start history parts
  pub explained : k.is_visible ≡ true → IsAlwaysExplained start word history store

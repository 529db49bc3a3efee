-- Turns of the store.
use Rattle.std.specs.Prelude.{ℕ, ◌-◌, ◌^◌, ◌≡◌, ◌≤◌, ◌<◌, ◌⊎◌, ◌||◌, eqb, Bool, true, false, cond, leb, List, [], ◌∷◌, ◌++◌, Some, length, min}
use Rattle.std.specs.FinSet as set
use Rattle.ufs_file.specs.Content.{own_bytes}
use Rattle.ufs_files.specs.Files.{AreNumbered}
use Rattle.ufs_layout.specs.declared.geometry.Geometry.{Geometry}
use Rattle.ufs_model.specs.History.{tree_after}
use Rattle.ufs_model.specs.PosixTree.{PosixTree}
use Rattle.ufs_model.specs.declared.data.Entry.{Entry}
use Rattle.ufs_hand_laws.specs.Owned.{Has, count, find, times}
use Rattle.ufs_hand_laws.specs.Parts.{Cells, Stretch, only_one}
use Rattle.ufs_store.specs.State.{geometry_of_store}
use Rattle.ufs_promise_laws.specs.Parts.{Parts}
use Rattle.ufs_promise_laws.specs.Sound.{IsSoundServer}
use Rattle.ufs_promise_laws.specs.Stored.{ArePartsOf}
use Rattle.ufs_joint.specs.Cells.{FileCell, NamesCell, StoreCell, View, store_of}
use Rattle.ufs_joint.specs.Faults.{IsStopSince}
use Rattle.ufs_joint.specs.NoneLost.{IsHad}
use Rattle.ufs_promise_laws.specs.Known.{IsDiskKept, Known}
use Rattle.ufs_joint.specs.Picks.{ArePicksOnce, HasPicked, IsAbsent, IsUnpicked, Pick}
use Rattle.ufs_joint.specs.Sound.{IsExplainedState}
use Rattle.ufs_joint.specs.Whole.{GoOnBy, HasCells, KnowsCells, birth_known, changes_known, name_changes_at}

-- ---- it begins

-- The disk was at rest since the last turn began, and is until now.
abbrev pub rested : ℕ → StoreCell → Stretch
rested n s = record { states = s.state ∷ []; from = s.stamp; to = n }

abbrev pub begun_at : ℕ → StoreCell → StoreCell
begun_at n s = record s { stamp = n; past = rested n s ∷ s.past }

abbrev pub turn_begun : ℕ → StoreCell → View → View
turn_begun n s v = record v { store = (tt, begun_at n s) ∷ []; seen = n }

-- ---- it ends

-- What a turn leaves: the files and the names that were lent to it, and the store, whose disk passed these states; what it read, and the
-- faults of the device that were answered in it.
pub record Turn : Type 0 where
  pub files : List (ℕ × FileCell)
  pub names : List (Unit {0} × NamesCell)
  pub store : StoreCell
  pub passed : List Cells
  pub picks : List Pick
  pub told : List ℕ

abbrev pub went : ℕ → Turn → Stretch
went n t = record { states = t.passed; from = t.store.stamp; to = n }

abbrev pub ended_at : ℕ → Turn → StoreCell
ended_at n t = record t.store { past = went n t ∷ t.store.past }

abbrev pub turn_ended : ℕ → Turn → View → View
turn_ended n t v = record v { files = t.files; names = t.names; store = (tt, ended_at n t) ∷ []; seen = n; faults = t.told ++ v.faults; stop = t.store.stop }

-- what is known then, where that was known before
module _ (start : PosixTree) (history : List Entry) (t : Turn) where
  abbrev pub names_known_by : List (Unit {0} × NamesCell) → ℕ → ℕ
  names_known_by [] names = names
  names_known_by (c ∷ cs) names = name_changes_at start history c.1.known

  -- the names that the turn leaves have the file
  abbrev pub named_by : List (Unit {0} × NamesCell) → ℕ → Bool
  named_by [] file = false
  named_by (c ∷ cs) file = set.contains c.1.named file

  abbrev pub known_by : Known → Known
  known_by known = record {
    names = names_known_by t.names known.names;
    files = λ file. cond (leb 1 (count eqb file t.files)) (changes_known start history file (find eqb file t.files)) (known.files file);
    born = λ file. named_by t.names file || (known.born file || birth_known start history (find eqb file t.files));
  }

-- A history that is as long as when the turn began, or longer, and whole parts that have what was lent, with the blocks of all pools
-- in theirs; and the store with its disk keeps them.
pub record IsTurnAround (g : Geometry) (v : View) (was : StoreCell) (start : PosixTree) (history : List Entry) (p : Parts) (known : Known) : Type 0 where
  pub cells : HasCells v p
  pub numbered : AreNumbered p.files
  pub server : IsSoundServer g was.unassigned.free p
  pub since : was.stamp ≤ length history
  pub knows : KnowsCells start history v known
  pub kept : IsDiskKept (store_of was) start history p known

-- So does the store that the turn leaves, with what is known then; the history explains each state that the disk passed, and its tree
-- has what was read.
pub record EndsOnDisk (was : StoreCell) (t : Turn) (next : Parts → Parts) (start : PosixTree) (history : List Entry) (p : Parts) (known : Known) : Type 0 where
  pub kept : IsDiskKept (store_of t.store) start history (next p) (known_by start history t known)
  pub passed : (cells : Cells) → Has cells t.passed → IsExplainedState was.sectors start history cells
  pub picked : HasPicked t.picks (tree_after start history)

-- A block of a file that was lent, which wasn't in memory, was read: as many bytes as the file has in it.
pub record IsReadIn (v : View) (pick : Pick) : Type 0 where
  pub cell : FileCell
  pub has : Has (pick.file, cell) v.files
  pub absent : IsAbsent cell pick.place
  pub long : length pick.bytes ≡ length (own_bytes cell.value.file.content.bytes pick.place)

-- A block that isn't in memory behind the turn wasn't before, and wasn't read.
pub record IsUnreadIn (v : View) (picks : List Pick) (file place : ℕ) : Type 0 where
  pub before : FileCell
  pub has : Has (file, before) v.files
  pub absent : IsAbsent before place
  pub unpicked : IsUnpicked picks file place

-- The faults that are told are new, each once, and the device's count rose to them; and a store that stopped stays so.
pub record AreFaultsTold (was left : StoreCell) (told : List ℕ) : Type 0 where
  pub rise : min was.faults (2 ^ 64 - 1) ≤ left.faults
  pub once : (fault : ℕ) → times fault told ≤ 1
  pub new : (fault : ℕ) → 1 ≤ times fault told → (was.faults < fault) × (fault ≤ left.faults) × (fault < 2 ^ 64 - 1)
  pub stopped : (fault : ℕ) → was.stop ≡ Some fault → left.stop ≡ Some fault
  -- and where it stops it does so by a call that fails
  pub halts : (fault : ℕ) → left.stop ≡ Some fault → (was.stop ≡ Some fault) ⊎ IsStopSince was.faults left.faults fault

-- What is asked of the end of a turn by its own hand.
pub record MayEndTurn (g : Geometry) (visible : Bool) (v : View) (t : Turn) : Type 0 where
  pub was : StoreCell
  pub has_store : v.store ≡ (tt, was) ∷ []
  pub stamp : t.store.stamp ≡ was.stamp
  pub past : t.store.past ≡ was.past
  pub sectors : t.store.sectors ≡ was.sectors
  pub formed : geometry_of_store (store_of t.store) ≡ geometry_of_store (store_of was)
  pub told : AreFaultsTold was t.store t.told
  -- what was lent didn't change meanwhile
  pub lent : visible ≡ true → (file : ℕ) (c : FileCell) → Has (file, c) v.files → c.changed ≤ was.stamp
  pub lent_names : visible ≡ true → (u : Unit {0}) (c : NamesCell) → Has (u, c) v.names → c.changed ≤ was.stamp
  pub same_files : (file : ℕ) → count eqb file t.files ≡ count eqb file v.files
  pub same_names : (u : Unit {0}) → count only_one u t.names ≡ count only_one u v.names
  pub files : (file : ℕ) (c : FileCell) → Has (file, c) t.files → (before : FileCell) × Has (file, before) v.files × (c.changed ≡ before.changed) × (visible ≡ true → c.known ≤ was.stamp)
  pub names : (u : Unit {0}) (c : NamesCell) → Has (u, c) t.names → (before : NamesCell) × Has (u, before) v.names × (c.changed ≡ before.changed) × (visible ≡ true → c.known ≤ was.stamp)
  -- how the parts go on, whatever the others are
  pub next : Parts → Parts
  pub goes : (p : Parts) → HasCells v p → GoOnBy v.files t.files t.names p (next p)
  pub pool : (p : Parts) → HasCells v p → (next p).pool ≡ p.pool
  -- what was read, each block once,
  pub read : (pick : Pick) → Has pick t.picks → IsReadIn v pick
  pub once : ArePicksOnce t.picks
  pub away : (file place : ℕ) (c : FileCell) → Has (file, c) t.files → IsAbsent c place → IsUnreadIn v t.picks file place
  -- and the parts are those of each tree that has it
  pub parts : (tree : PosixTree) (p : Parts) → HasCells v p → HasPicked t.picks tree → ArePartsOf p tree → ArePartsOf (next p) tree
  pub server : (p : Parts) → HasCells v p → AreNumbered p.files → IsSoundServer g was.unassigned.free p → IsSoundServer g t.store.unassigned.free (next p)
  -- no block is lost
  pub none_lost : (p : Parts) → HasCells v p → AreNumbered p.files → (block : ℕ) → IsHad p was.unassigned.free block → IsHad (next p) t.store.unassigned.free block
  -- from each tree and history, with whichever others
  pub disk : visible ≡ true → (start : PosixTree) (history : List Entry) (p : Parts) (known : Known) → IsTurnAround g v was start history p known → EndsOnDisk was t next start history p known

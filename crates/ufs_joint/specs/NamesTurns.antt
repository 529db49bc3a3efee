-- A commit of the names, with the zeros of the blocks that directories took, by a hand with the store and the names alone.
use Rattle.std.specs.Prelude.{ℕ, ◌≡◌, ◌≤◌, ◌⊎◌, Bool, IsTrue, true, List, [], ◌∷◌, length, Option, Some, None}
use Rattle.std.specs.Ordering.{nat_cmp}
use Rattle.std.specs.FinMap as fin
use Rattle.std.specs.FinSet as set
use Rattle.ufs_bitmap.specs.Blocks.{BlockSet}
use Rattle.ufs_disk.specs.Disk.{State}
use Rattle.ufs_layout.specs.declared.geometry.Geometry.{Geometry}
use Rattle.ufs_layout.specs.declared.records.LogRecord.{LogRecord}
use Rattle.ufs_model.specs.PosixTree.{PosixTree}
use Rattle.ufs_model.specs.declared.data.Entry.{Entry}
use Rattle.ufs_name_tree.specs.NameTable.{IsNameTable}
use Rattle.ufs_names.specs.NamesPart.{NamesPart}
use Rattle.ufs_crash_laws.specs.Changes.{name_changes}
use Rattle.ufs_hand_laws.specs.Parts.{Cells}
use Rattle.ufs_store.specs.State.{StoreState, geometry_of_store}
use Rattle.ufs_promise_laws.specs.Known.{IsDiskKept, IsKeptGoing, Known, with_names_known}
use Rattle.ufs_promise_laws.specs.Laws.{with_names_committed}
use Rattle.ufs_promise_laws.specs.OnDisk.{IsExplainedBetween, IsGoing}
use Rattle.ufs_promise_laws.specs.Parts.{Parts}
use Rattle.ufs_joint.specs.Cells.{NamesCell, StoreCell, View, store_of, store_since}
use Rattle.ufs_joint.specs.FileHands.{IsAsBegun, LeavesStore, WentOn}
use Rattle.ufs_joint.specs.Turns.{MayEndTurn, Turn}

-- The hand has the store and the names, which didn't change since the turn began, and no file.
pub record IsNamesSyncHand (visible : Bool) (v : View) (names : NamesCell) (was : StoreCell) : Type 0 where
  pub files : v.files ≡ []
  pub names_are : v.names ≡ (tt, names) ∷ []
  pub store : v.store ≡ (tt, was) ∷ []
  pub changed : visible ≡ true → names.changed ≤ was.stamp
  pub known : visible ≡ true → names.known ≤ was.stamp

-- ---- what `commit_notes` tells, of each history and each parts whose names noted this and took these blocks

-- the parts have them
pub record HaveNoted (fresh : List ℕ) (noted : Option (List LogRecord)) (p : Parts) : Type 0 where
  pub blocks : p.fresh ≡ fresh
  pub records : p.names.tree.noted ≡ noted
  pub table : IsNameTable p.names.tree

-- all changes of names are known, and the births of the live files;
abbrev pub HasCommittedNames : StoreState → StoreState → List ℕ → Option (List LogRecord) → Type 0
HasCommittedNames old new fresh noted = (start : PosixTree) (history : List Entry) (p : Parts) (known : Known) → HaveNoted fresh noted p
    → IsKeptGoing old start history p known → IsKeptGoing new start history (with_names_committed p) (with_names_known p.names (length (name_changes start history)) known)

-- or what was known is known still;
abbrev pub HasFailedNames : StoreState → StoreState → List ℕ → Option (List LogRecord) → Type 0
HasFailedNames old new fresh noted = (start : PosixTree) (history : List Entry) (p : Parts) (known : Known) → HaveNoted fresh noted p → IsKeptGoing old start history p known → IsDiskKept new start history p known

-- and meanwhile a crash leaves only what the history explains.
abbrev pub LeavesNames : Bool → StoreState → StoreState → List ℕ → Option (List LogRecord) → Type 0
LeavesNames keeps old new fresh noted = (start : PosixTree) (history : List Entry) (p : Parts) → HaveNoted fresh noted p → IsGoing old start history p → IsExplainedBetween keeps old.sectors start history old.moments new.moments

-- ---- the turn

-- Where it passes the store went on.
pub record CommitsNames (keeps visible : Bool) (was left : StoreCell) (names : NamesCell) (passed : List Cells) : Type 0 where
  pub earlier : List State
  pub later : List State
  pub going : was.stop ≡ None
  pub table : IsNameTable names.value.tree
  pub committed : visible ≡ true → HasCommittedNames (store_since earlier was) (store_since later left) names.fresh names.value.tree.noted
  pub moments : visible ≡ true → LeavesNames keeps (store_since earlier was) (store_since later left) names.fresh names.value.tree.noted
  pub unassigned : left.unassigned.free ≡ was.unassigned.free
  pub left_so : LeavesStore keeps visible was left earlier later passed []

-- the files of which the names tell
abbrev pub live_files : NamesPart → BlockSet
live_files n = set.from_list {R = nat_cmp} (fin.keys n.held)

-- Nothing is noted then, and no block is fresh. The commit has each live file, so these may be told their births.
abbrev pub names_committed : StoreCell → NamesCell → NamesCell
names_committed was n = record n { value = record (n.value) { tree = record (n.value.tree) { noted = Some [] } }; fresh = []; named = live_files n.value; known = was.stamp }

abbrev pub committed_names_turn : NamesCell → StoreCell → StoreCell → List Cells → Turn
committed_names_turn names was left passed = record { files = []; names = (tt, names_committed was names) ∷ []; store = left; passed = passed; picks = []; told = [] }

-- So the turn may end.
abbrev pub NamesCommitsMayEnd : Type 0
NamesCommitsMayEnd = (g : Geometry) (keeps visible : Bool) (v : View) (names : NamesCell) (was left : StoreCell) (passed : List Cells) → geometry_of_store (store_of was) ≡ g
    → IsNamesSyncHand visible v names was → CommitsNames keeps visible was left names passed → MayEndTurn g visible v (committed_names_turn names was left passed)

-- Where it fails, memory or room was wanting, or the disk failed and the store has stopped; or it had stopped before, and did nothing.
pub record FailsNames (keeps visible : Bool) (was left : StoreCell) (names : NamesCell) (passed : List Cells) (told : List ℕ) : Type 0 where
  pub earlier : List State
  pub later : List State
  pub table : IsNameTable names.value.tree
  pub failed : visible ≡ true → (store_since later left ≡ store_since earlier was) ⊎ ((was.stop ≡ None) × HasFailedNames (store_since earlier was) (store_since later left) names.fresh names.value.tree.noted)
  pub moments : visible ≡ true → LeavesNames keeps (store_since earlier was) (store_since later left) names.fresh names.value.tree.noted
  pub unassigned : left.unassigned.free ≡ was.unassigned.free
  pub left_so : LeavesStore keeps visible was left earlier later passed told

abbrev pub failed_names_turn : NamesCell → StoreCell → List Cells → List ℕ → Turn
failed_names_turn names left passed told = record { files = []; names = (tt, names) ∷ []; store = left; passed = passed; picks = []; told = told }

-- The turn may end then too.
abbrev pub NamesFailuresMayEnd : Type 0
NamesFailuresMayEnd = (g : Geometry) (keeps visible : Bool) (v : View) (names : NamesCell) (was left : StoreCell) (passed : List Cells) (told : List ℕ) → geometry_of_store (store_of was) ≡ g
    → IsNamesSyncHand visible v names was → FailsNames keeps visible was left names passed told → MayEndTurn g visible v (failed_names_turn names left passed told)

-- ---- which states the disk passed

abbrev pub NamesCommitsGoOn : Type 0
NamesCommitsGoOn = (g : Geometry) (keeps visible : Bool) (v : View) (names : NamesCell) (was left : StoreCell) (passed : List Cells) → geometry_of_store (store_of was) ≡ g
    → IsNamesSyncHand visible v names was → (c : CommitsNames keeps visible was left names passed) → visible ≡ true → IsTrue keeps → (start : PosixTree) (history : List Entry) (p : Parts) (known : Known) → IsAsBegun v was start history p known
    → WentOn (store_since c.earlier was) (store_since c.later left)

abbrev pub NamesFailuresGoOn : Type 0
NamesFailuresGoOn = (g : Geometry) (keeps visible : Bool) (v : View) (names : NamesCell) (was left : StoreCell) (passed : List Cells) (told : List ℕ) → geometry_of_store (store_of was) ≡ g
    → IsNamesSyncHand visible v names was → (c : FailsNames keeps visible was left names passed told) → visible ≡ true → IsTrue keeps → (start : PosixTree) (history : List Entry) (p : Parts) (known : Known) → IsAsBegun v was start history p known
    → WentOn (store_since c.earlier was) (store_since c.later left)

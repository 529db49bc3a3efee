-- The store makes a checkpoint in a turn, by a hand that has the names and each live file too: what the names dropped is unassigned then.
use Rattle.std.specs.Prelude.{ℕ, ◌≡◌, ◌≤◌, Bool, IsTrue, true, IsSome, List, [], ◌∷◌, Some, None}
use Rattle.std.specs.FinMap as fin
use Rattle.std.specs.FinSet as set
use Rattle.ufs_bitmap.specs.Blocks.{BlockSet}
use Rattle.ufs_disk.specs.Disk.{State}
use Rattle.ufs_disk.specs.Moments.{LeavesOnly}
use Rattle.ufs_layout.specs.declared.geometry.Geometry.{Geometry}
use Rattle.ufs_ledger.specs.Ledger.{Ledger}
use Rattle.ufs_model.specs.PosixTree.{PosixTree}
use Rattle.ufs_model.specs.declared.data.Entry.{Entry}
use Rattle.ufs_hand_laws.specs.Owned.{Has}
use Rattle.ufs_hand_laws.specs.Parts.{Cells}
use Rattle.ufs_store.specs.Ledgers.{HasLedger, IsLeftByAny, beginning_next, checkpointed}
use Rattle.ufs_store.specs.State.{geometry_of_store}
use Rattle.ufs_promise_laws.specs.Known.{Known}
use Rattle.ufs_promise_laws.specs.Parts.{Parts}
use Rattle.ufs_names_commit.specs.Laws.{KeepsItsBlocks}
use Rattle.ufs_joint.specs.Cells.{FileCell, NamesCell, StoreCell, View, store_of, store_since}
use Rattle.ufs_joint.specs.Checkpoints.{MakesCheckpoint}
use Rattle.ufs_joint.specs.FileHands.{IsAsBegun, LeavesStore, WentOn}
use Rattle.ufs_joint.specs.Moves.{with_unassigned}
use Rattle.ufs_joint.specs.NamesHands.{AreNumberedOnce}
use Rattle.ufs_joint.specs.Turns.{MayEndTurn, Turn}
use Rattle.ufs_joint.specs.Whole.{no_blocks}

-- The hand has the store, the names and each live file, none of which changed since the turn began. Nothing of the names is noted, no
-- block is fresh, and each file keeps the blocks that it has on the disk.
pub record IsReclaimHand (visible : Bool) (v : View) (names : NamesCell) (was : StoreCell) : Type 0 where
  pub names_are : v.names ≡ (tt, names) ∷ []
  pub store : v.store ≡ (tt, was) ∷ []
  pub files : AreNumberedOnce v.files
  pub each : (file : ℕ) → IsSome (fin.get names.value.held file) → (c : FileCell) × Has (file, c) v.files
  pub stands : (file : ℕ) (c : FileCell) → Has (file, c) v.files → KeepsItsBlocks c.value
  pub noted : names.value.tree.noted ≡ Some []
  pub fresh : names.fresh ≡ []
  pub changed : visible ≡ true → (names.changed ≤ was.stamp) × (names.known ≤ was.stamp)
  pub files_changed : visible ≡ true → (file : ℕ) (c : FileCell) → Has (file, c) v.files → (c.changed ≤ was.stamp) × (c.known ≤ was.stamp)

-- The checkpoint was made.
pub record HasCheckpoint (keeps visible : Bool) (was mid : StoreCell) (passed : List Cells) : Type 0 where
  pub earlier : List State
  pub later : List State
  pub going : was.stop ≡ None
  pub made : visible ≡ true → (l : Ledger) → HasLedger (store_since earlier was) l → HasLedger (store_since later mid) (checkpointed (store_since earlier was) l)
  pub crash : visible ≡ true → (l : Ledger) → HasLedger (store_since earlier was) l
      → LeavesOnly keeps (IsLeftByAny was.sectors (l ∷ beginning_next (store_since earlier was) l ∷ [])) (store_since earlier was).moments (store_since later mid).moments
  pub unassigned : mid.unassigned ≡ was.unassigned
  pub left_so : LeavesStore keeps visible was mid earlier later passed []

-- Then what the names dropped is unassigned, and they have it no more.
abbrev pub reclaimed_turn : View → NamesCell → StoreCell → List Cells → Turn
reclaimed_turn v names mid passed = record {
  files = v.files;
  names = (tt, record names { dropped = no_blocks }) ∷ [];
  store = with_unassigned (set.union mid.unassigned.free names.dropped) mid;
  passed = passed;
  picks = [];
  told = [];
}

-- So the turn may end.
abbrev pub ReclaimsMayEnd : Geometry → Type 0
ReclaimsMayEnd g = (keeps visible : Bool) (v : View) (names : NamesCell) (was mid : StoreCell) (passed : List Cells) → geometry_of_store (store_of was) ≡ g
    → IsReclaimHand visible v names was → HasCheckpoint keeps visible was mid passed → MayEndTurn g visible v (reclaimed_turn v names mid passed)

-- Where the checkpoint isn't made, all stays.
abbrev pub unreclaimed_turn : View → NamesCell → StoreCell → List Cells → List ℕ → Turn
unreclaimed_turn v names left passed told = record { files = v.files; names = (tt, names) ∷ []; store = left; passed = passed; picks = []; told = told }

-- The turn may end then too.
abbrev pub ReclaimFailuresMayEnd : Geometry → Type 0
ReclaimFailuresMayEnd g = (keeps visible : Bool) (v : View) (names : NamesCell) (was left : StoreCell) (passed : List Cells) (told : List ℕ) → geometry_of_store (store_of was) ≡ g
    → IsReclaimHand visible v names was → MakesCheckpoint keeps visible was left passed told → MayEndTurn g visible v (unreclaimed_turn v names left passed told)

-- The disk went on by the checkpoint.
abbrev pub ReclaimsGoOn : Geometry → Type 0
ReclaimsGoOn g = (keeps visible : Bool) (v : View) (names : NamesCell) (was mid : StoreCell) (passed : List Cells) → geometry_of_store (store_of was) ≡ g
    → IsReclaimHand visible v names was → (c : HasCheckpoint keeps visible was mid passed) → visible ≡ true → IsTrue keeps → (start : PosixTree) (history : List Entry) (p : Parts) (known : Known) → IsAsBegun v was start history p known
    → WentOn (store_since c.earlier was) (store_since c.later mid)

-- The store makes a checkpoint in a turn, by a hand that has the store's cell and no file.
use Rattle.std.specs.Prelude.{ℕ, ◌≡◌, ◌⊎◌, Bool, IsTrue, true, None, IsSome, List, [], ◌∷◌}
use Rattle.ufs_disk.specs.Disk.{State}
use Rattle.ufs_disk.specs.Moments.{LeavesOnly}
use Rattle.ufs_layout.specs.declared.geometry.Geometry.{Geometry}
use Rattle.ufs_ledger.specs.Ledger.{Ledger}
use Rattle.ufs_model.specs.PosixTree.{PosixTree}
use Rattle.ufs_model.specs.declared.data.Entry.{Entry}
use Rattle.ufs_hand_laws.specs.Parts.{Cells}
use Rattle.ufs_store.specs.Ledgers.{HasAny, HasLedger, IsLeftByAny, beginning_next, checkpointed}
use Rattle.ufs_store.specs.State.{StoreState, geometry_of_store}
use Rattle.ufs_promise_laws.specs.Parts.{Parts}
use Rattle.ufs_joint.specs.Cells.{StoreCell, View, store_of, store_since}
use Rattle.ufs_joint.specs.FileHands.{IsAsBegun, LeavesStore, WentOn}
use Rattle.ufs_promise_laws.specs.Known.{Known}
use Rattle.ufs_joint.specs.Turns.{MayEndTurn, Turn}

-- The hand has the store's cell, and neither a file nor the names.
pub record IsBareHand (v : View) (was : StoreCell) : Type 0 where
  pub files : v.files ≡ []
  pub names : v.names ≡ []
  pub store : v.store ≡ (tt, was) ∷ []

-- It is made; or the disk failed, and the store has stopped.
abbrev pub HasBegunAnew : StoreState → StoreState → Type 0
HasBegunAnew old new = ((l : Ledger) → HasLedger old l → HasLedger new (checkpointed old l)) ⊎ (IsSome new.stop × ((l : Ledger) → HasLedger old l → HasAny new (l ∷ beginning_next old l ∷ [])))

-- What `checkpoint` tells. Where memory was wanting, or the store had stopped before, nothing is done.
pub record MakesCheckpoint (keeps visible : Bool) (was left : StoreCell) (passed : List Cells) (told : List ℕ) : Type 0 where
  pub earlier : List State
  pub later : List State
  pub made : visible ≡ true → (store_since later left ≡ store_since earlier was) ⊎ ((was.stop ≡ None) × HasBegunAnew (store_since earlier was) (store_since later left))
  pub crash : visible ≡ true → (l : Ledger) → HasLedger (store_since earlier was) l
      → LeavesOnly keeps (IsLeftByAny was.sectors (l ∷ beginning_next (store_since earlier was) l ∷ [])) (store_since earlier was).moments (store_since later left).moments
  pub unassigned : left.unassigned.free ≡ was.unassigned.free
  pub left_so : LeavesStore keeps visible was left earlier later passed told

abbrev pub checkpoint_turn : StoreCell → List Cells → List ℕ → Turn
checkpoint_turn left passed told = record { files = []; names = []; store = left; passed = passed; picks = []; told = told }

-- So the turn may end.
abbrev pub CheckpointsMayEnd : Geometry → Type 0
CheckpointsMayEnd g = (keeps visible : Bool) (v : View) (was left : StoreCell) (passed : List Cells) (told : List ℕ) → geometry_of_store (store_of was) ≡ g → IsBareHand v was → MakesCheckpoint keeps visible was left passed told
    → MayEndTurn g visible v (checkpoint_turn left passed told)

-- The disk went on by it.
abbrev pub CheckpointsGoOn : Geometry → Type 0
CheckpointsGoOn g = (keeps visible : Bool) (v : View) (was left : StoreCell) (passed : List Cells) (told : List ℕ) → geometry_of_store (store_of was) ≡ g → IsBareHand v was → (c : MakesCheckpoint keeps visible was left passed told)
    → visible ≡ true → IsTrue keeps → (start : PosixTree) (history : List Entry) (p : Parts) (known : Known) → IsAsBegun v was start history p known → WentOn (store_since c.earlier was) (store_since c.later left)

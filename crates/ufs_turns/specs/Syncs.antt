-- What calls of a store tell, all together.
use Rattle.std.specs.Prelude.{ℕ, ◌≡◌, ◌⊎◌, Bool, IsTrue, None, Option, [], ◌∷◌}
use Rattle.std.specs.FinSet as set
use Rattle.ufs_bitmap.specs.Taking.{set_of}
use Rattle.ufs_disk.specs.Moments.{LeavesOnly}
use Rattle.ufs_file_commits.specs.Committing.{FitsInode}
use Rattle.ufs_file_commits.specs.State.{DurableState, file_committed}
use Rattle.ufs_joint.specs.Checkpoints.{HasBegunAnew}
use Rattle.ufs_ledger.specs.Ledger.{Ledger}
use Rattle.ufs_promise_laws.specs.Syncs.{HasFailed, HasSynced, HasWritten, LeavesStages}
use Rattle.ufs_store.specs.Ledgers.{HasLedger, IsLeftByAny, beginning_next}
use Rattle.ufs_store.specs.Refusals.{IsTold, stop_after}
use Rattle.ufs_store.specs.State.{StoreState, geometry_of_store}

-- ---- `fsync` of a file

-- It passed.
pub record HasPassed (visible keeps : Bool) (old new : StoreState) (f g : DurableState) : Type 0 where
  pub going : old.stop ≡ None
  pub fits : FitsInode f.file
  pub synced : IsTrue visible → HasSynced old new f
  pub stages : IsTrue visible → LeavesStages keeps old new f
  pub freed : new.unassigned.free ≡ set.union old.unassigned.free (set_of f.dropped)
  pub geometry : geometry_of_store new ≡ geometry_of_store old
  pub sectors : new.sectors ≡ old.sectors
  pub faults : new.faults ≡ old.faults
  pub stop : new.stop ≡ old.stop
  pub committed : g ≡ file_committed f

-- It didn't: the store had stopped before, or memory ran out, or the disk failed, by the fault that is told.
pub record HasNotPassed (visible keeps : Bool) (old new : StoreState) (f g : DurableState) (fault : Option ℕ) : Type 0 where
  pub fits : FitsInode f.file
  pub failed : IsTrue visible → (new ≡ old) ⊎ ((old.stop ≡ None) × (HasWritten old new f ⊎ HasFailed old new f))
  pub stages : IsTrue visible → LeavesStages keeps old new f
  pub unfreed : new.unassigned ≡ old.unassigned
  pub geometry : geometry_of_store new ≡ geometry_of_store old
  pub sectors : new.sectors ≡ old.sectors
  pub cause : IsTold old.faults new.faults fault
  pub stop : new.stop ≡ stop_after old.stop fault
  pub kept : g ≡ f

-- ---- `checkpoint`

-- It is made, or the disk failed and the store has stopped; or nothing is done, where memory was
-- wanting or the store had stopped before.
pub record HasMade (visible keeps : Bool) (old new : StoreState) (told : Option ℕ) : Type 0 where
  pub made : IsTrue visible → (new ≡ old) ⊎ ((old.stop ≡ None) × HasBegunAnew old new)
  pub crash : IsTrue visible → (l : Ledger) → HasLedger old l → LeavesOnly keeps (IsLeftByAny old.sectors (l ∷ beginning_next old l ∷ [])) old.moments new.moments
  pub unassigned : new.unassigned ≡ old.unassigned
  pub geometry : geometry_of_store new ≡ geometry_of_store old
  pub sectors : new.sectors ≡ old.sectors
  pub cause : IsTold old.faults new.faults told
  pub stop : new.stop ≡ stop_after old.stop told

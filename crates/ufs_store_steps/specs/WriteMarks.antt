-- Whole marks of a write, a read and a barrier.
use Rattle.std.specs.Prelude.{ℕ, ◌*◌, ◌≡◌, ◌≤◌, ◌⊎◌, true, false, List, [], ◌∷◌, Bool, IsTrue, Some, None, slice_get}
use Rattle.ufs_base.specs.declared.sizes.TheConstants.{SECTORS_PER_BLOCK}
use Rattle.ufs_disk.specs.Disk.{State, IsImage, IsPartlyWritten, Leaves}
use Rattle.ufs_disk.specs.Moments.{Moments, LeavesOnly, reads}
use Rattle.ufs_image.specs.Images.{IsImageOf, block_at}
use Rattle.ufs_layout.specs.Areas.{sector_count}
use Rattle.ufs_layout.specs.declared.geometry.Geometry.{Geometry}
use Rattle.ufs_model.specs.PosixTree.{Paths}
use Rattle.ufs_ledger.specs.Ledger.{Stand, Ledger, IsLedgerOf}
use Rattle.ufs_ledger.specs.Changes.{settled, tried, written}
use Rattle.ufs_ledger.specs.Kept.{Numbers}
use Rattle.ufs_ledger.specs.Laws.{MayWrite}
use Rattle.ufs_hand_laws.specs.Owned.{Has, times}
use Rattle.ufs_hand_laws.specs.Parts.{FilePart, StorePart, View, Start, uses}
use Rattle.ufs_hand_laws.specs.DiskBytes.{block_in, is_loaded}
use Rattle.ufs_hand_laws.specs.Meets.{HaveTheirBytes}
use Rattle.ufs_hand_laws.specs.Events.{IsLent, MayPass, MayFail}
use Rattle.ufs_hand_laws.specs.ByImages.{by_images}
use Rattle.ufs_store_steps.specs.Cells.{cells_of}
use Rattle.ufs_store_steps.specs.Steps.{IsBefore, WritesItsFiles}
use Rattle.ufs_store_steps.specs.Runs.{WentThrough, passed_cells}
use Rattle.ufs_store_steps.specs.Marks.{failure_of, AreBlocksUnheld}

-- ---- a write

-- what the ledger's clauses ask and say of a write, passed or failed
pub record BlockWriteRuns (keeps : Bool) (g : Geometry) (sectors block : ℕ) (bytes : List ℕ) (old new : Moments) (passed : List State) (l : Ledger) : Type 0 where
  pub kept : IsTrue keeps
  pub large : sector_count g ≤ sectors
  pub went : WentThrough old new passed
  -- the image is in use, and a store's sectors are whole
  pub used : l.superblock.clean ≡ false
  pub whole : Leaves (IsImageOf sectors) old.state
  pub may : MayWrite l block bytes
  pub images : LeavesOnly keeps (IsPartlyWritten (SECTORS_PER_BLOCK * block) bytes old.state) old new

-- What a store knows that writes a block: it is the hand's, and where a committed file has it, it gets bytes that this file of
-- the hand has.
pub record WritesItsBlock (k : Start) (v : View) (s : StorePart) (stand : Stand) (n : Numbers) (paths : Paths) (block : ℕ) (bytes : List ℕ) : Type 0 where
  pub store : v.store ≡ (tt, s) ∷ []
  pub told : s.paths ≡ Some paths
  pub hand : 1 ≤ uses block v
  -- by the history from which the hand's parts come
  pub files : HaveTheirBytes k v
  pub writes : WritesItsFiles v s stand n block bytes

-- Where a file of the hand has the block and not in memory, these are the file's bytes.
abbrev pub HasItsBytes : View → ℕ → List ℕ → Type 0
HasItsBytes v block bytes = (file : ℕ) (x : FilePart) → Has (file, x) v.files → (place : ℕ) → slice_get x.blocks place ≡ Some block → is_loaded x place ≡ false → bytes ≡ block_in x.bytes place

-- Where a file of the hand has the block, it is in memory.
abbrev pub IsInMemory : View → ℕ → Type 0
IsInMemory v block = (file : ℕ) (x : FilePart) → Has (file, x) v.files → (place : ℕ) → slice_get x.blocks place ≡ Some block → is_loaded x place ≡ true

-- A write that passed may be marked.
abbrev pub WritesMark : Geometry → Type 0
WritesMark g = (keeps : Bool) (sectors block : ℕ) (bytes : List ℕ) (old new : Moments) (passed : List State) (l : Ledger) (n : Numbers) (paths : Paths) (k : Start) (v : View) (s : StorePart) (lent : List (ℕ × ℕ)) (lent_names : ℕ)
    → IsBefore g sectors old.state l n paths s.state → BlockWriteRuns keeps g sectors block bytes old new passed l → IsLedgerOf sectors new.state (written block bytes l)
    → WritesItsBlock k v s l.now n paths block bytes → HasItsBytes v block bytes → AreBlocksUnheld g k v l.now.log → IsLent v lent lent_names
    → MayPass by_images k v s lent lent_names (record { through = passed_cells sectors passed; state = cells_of sectors new.state })

-- So may one that failed, by a fault that is new. It may have left some of the sectors, so the block has to be in memory.
abbrev pub FailedWritesMark : Geometry → Type 0
FailedWritesMark g = (keeps : Bool) (sectors block : ℕ) (bytes : List ℕ) (old new : Moments) (passed : List State) (l : Ledger) (n : Numbers) (paths : Paths) (k : Start) (v : View) (s : StorePart) (fault : ℕ)
    → IsBefore g sectors old.state l n paths s.state → BlockWriteRuns keeps g sectors block bytes old new passed l → IsLedgerOf sectors new.state (tried block bytes (block_at (reads new) block) l)
    → WritesItsBlock k v s l.now n paths block bytes → IsInMemory v block → AreBlocksUnheld g k v l.now.log
    → s.stop ≡ None → times fault s.faults ≡ 0
    → MayFail by_images k v s (failure_of fault sectors new passed)

-- ---- a read or a barrier

-- what the ledger's clauses say of it, passed or failed
pub record QuietCallRuns (keeps : Bool) (g : Geometry) (sectors : ℕ) (old new : Moments) (passed : List State) : Type 0 where
  pub kept : IsTrue keeps
  pub large : sector_count g ≤ sectors
  pub went : WentThrough old new passed
  pub images : LeavesOnly keeps (IsImage old.state) old new

-- A barrier that passed may be marked, and a read, passed or failed.
abbrev pub QuietCallsMark : Geometry → Type 0
QuietCallsMark g = (keeps : Bool) (sectors : ℕ) (old new : Moments) (passed : List State) (l : Ledger) (n : Numbers) (paths : Paths) (k : Start) (v : View) (s : StorePart) (lent : List (ℕ × ℕ)) (lent_names : ℕ)
    → IsBefore g sectors old.state l n paths s.state → QuietCallRuns keeps g sectors old new passed → IsLedgerOf sectors new.state l ⊎ IsLedgerOf sectors new.state (settled l)
    → v.store ≡ (tt, s) ∷ [] → AreBlocksUnheld g k v l.now.log → IsLent v lent lent_names
    → MayPass by_images k v s lent lent_names (record { through = passed_cells sectors passed; state = cells_of sectors new.state })

-- So may a barrier that failed, by a fault that is new.
abbrev pub FailedBarriersMark : Geometry → Type 0
FailedBarriersMark g = (keeps : Bool) (sectors : ℕ) (old new : Moments) (passed : List State) (l : Ledger) (n : Numbers) (paths : Paths) (k : Start) (v : View) (s : StorePart) (fault : ℕ)
    → IsBefore g sectors old.state l n paths s.state → QuietCallRuns keeps g sectors old new passed → IsLedgerOf sectors new.state l
    → v.store ≡ (tt, s) ∷ [] → AreBlocksUnheld g k v l.now.log → s.stop ≡ None → times fault s.faults ≡ 0
    → MayFail by_images k v s (failure_of fault sectors new passed)

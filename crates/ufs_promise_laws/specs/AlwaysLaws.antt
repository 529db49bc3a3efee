-- What a crash leaves at each moment of a store's calls.
use Rattle.std.specs.Prelude.{ℕ, ◌≡◌, Bool, List, [], ◌∷◌}
use Rattle.std.specs.List.{AllByRecursion}
use Rattle.ufs_base.specs.Images.{Image}
use Rattle.ufs_disk.specs.Moments.{LeavesOnly, Moments}
use Rattle.ufs_layout.specs.Superblock.{geometry_of}
use Rattle.ufs_layout.specs.declared.geometry.Geometry.{Geometry}
use Rattle.ufs_layout.specs.declared.records.LogRecord.{LogRecord}
use Rattle.ufs_ledger.specs.Changes.{committing, settled}
use Rattle.ufs_ledger.specs.Kept.{Counts, IsLedgerKept}
use Rattle.ufs_ledger.specs.Ledger.{IsLeftBy, Ledger}
use Rattle.ufs_model.specs.PosixTree.{PosixTree}
use Rattle.ufs_model.specs.declared.data.Entry.{Entry}
use Rattle.ufs_store.specs.Ledgers.{IsLeftByAny, beginning_next, stages, with_room}
use Rattle.ufs_store.specs.State.{StoreState, geometry_of_store, next_commit}
use Rattle.ufs_promise_laws.specs.OnDisk.{IsExplainedBetween, IsExplainedImage, IsOnDisk}
use Rattle.ufs_promise_laws.specs.Parts.{Parts}

-- A ledger of this form, of which the history explains whatever a crash leaves.
pub record IsKeptLedger (g : Geometry) (start : PosixTree) (history : List Entry) (l : Ledger) : Type 0 where
  pub now : Counts
  pub maybe : Counts
  pub formed : geometry_of l.superblock ≡ g
  pub kept : IsLedgerKept l start history now maybe

-- ---- one image

-- The history explains each image that such a ledger leaves.
abbrev pub ImagesAreExplained : Geometry → Type 0
ImagesAreExplained g = (sectors : ℕ) (image : Image) (l : Ledger) (start : PosixTree) (history : List Entry)
    → IsKeptLedger g start history l → IsLeftBy sectors l image → IsExplainedImage sectors start history image

-- So it is in a checkpoint,
abbrev pub CheckpointImagesAreExplained : Geometry → Type 0
CheckpointImagesAreExplained g = (s : StoreState) (image : Image) (l : Ledger) (start : PosixTree) (history : List Entry) (counts : Counts) → geometry_of l.superblock ≡ g → l.superblock ≡ s.superblock
    → IsLedgerKept l start history counts counts → IsLeftByAny s.sectors (l ∷ beginning_next s l ∷ []) image → IsExplainedImage s.sectors start history image

-- and in a commit, where it keeps the promise by these counts.
abbrev pub CommitImagesAreExplained : Geometry → Type 0
CommitImagesAreExplained g = (s : StoreState) (records : List LogRecord) (image : Image) (l : Ledger) (start : PosixTree) (history : List Entry) (counts next : Counts) → geometry_of l.superblock ≡ g → l.superblock ≡ s.superblock
    → IsLedgerKept l start history counts counts → IsLedgerKept (committing (next_commit s records) (settled (with_room s records l))) start history counts next
    → IsLeftByAny s.sectors (stages s records l) image → IsExplainedImage s.sectors start history image

-- ---- each moment of calls

-- Calls leave what such a ledger has,
abbrev pub LedgersAreExplained : Geometry → Type 0
LedgersAreExplained g = (keeps : Bool) (sectors : ℕ) (old new : Moments) (l : Ledger) (start : PosixTree) (history : List Entry)
    → IsKeptLedger g start history l → LeavesOnly keeps (IsLeftBy sectors l) old new → IsExplainedBetween keeps sectors start history old new

-- or what one of several has.
abbrev pub StagesAreExplained : Geometry → Type 0
StagesAreExplained g = (keeps : Bool) (sectors : ℕ) (old new : Moments) (ls : List Ledger) (start : PosixTree) (history : List Entry)
    → AllByRecursion (IsKeptLedger g start history) ls → LeavesOnly keeps (IsLeftByAny sectors ls) old new → IsExplainedBetween keeps sectors start history old new

-- A checkpoint.
abbrev pub CheckpointsAreExplained : Geometry → Type 0
CheckpointsAreExplained g = (keeps : Bool) (s : StoreState) (old new : Moments) (l : Ledger) (start : PosixTree) (history : List Entry) (counts : Counts) → geometry_of l.superblock ≡ g → l.superblock ≡ s.superblock
    → IsLedgerKept l start history counts counts → LeavesOnly keeps (IsLeftByAny s.sectors (l ∷ beginning_next s l ∷ [])) old new → IsExplainedBetween keeps s.sectors start history old new

-- A commit, where it keeps the promise by these counts.
abbrev pub CommitsAreExplained : Geometry → Type 0
CommitsAreExplained g = (keeps : Bool) (s : StoreState) (records : List LogRecord) (old new : Moments) (l : Ledger) (start : PosixTree) (history : List Entry) (counts next : Counts) → geometry_of l.superblock ≡ g → l.superblock ≡ s.superblock
    → IsLedgerKept l start history counts counts → IsLedgerKept (committing (next_commit s records) (settled (with_room s records l))) start history counts next
    → LeavesOnly keeps (IsLeftByAny s.sectors (stages s records l)) old new → IsExplainedBetween keeps s.sectors start history old new

-- No call.
abbrev pub RestIsExplained : Geometry → Type 0
RestIsExplained g = (keeps : Bool) (s : StoreState) (start : PosixTree) (history : List Entry) (p : Parts) → geometry_of_store s ≡ g → IsOnDisk s start history p
    → IsExplainedBetween keeps s.sectors start history s.moments s.moments

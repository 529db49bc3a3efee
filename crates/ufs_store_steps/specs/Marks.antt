-- Whole marks: the condition of each is met by the ledger's clauses of the call, and by what the store knows of its own parts.
use Rattle.std.specs.Prelude.{ℕ, ◌+◌, ◌≡◌, ◌≤◌, ◌⊎◌, true, false, List, [], ◌∷◌, length, Bool, IsTrue, Some, None, slice_get, slice_index_or}
use Rattle.std.specs.FinMap as fin
use Rattle.std.specs.Ordering.{nat_cmp}
use Rattle.ufs_disk.specs.Disk.{State}
use Rattle.ufs_disk.specs.Moments.{Moments, LeavesOnly}
use Rattle.ufs_layout.specs.Areas.{sector_count}
use Rattle.ufs_layout.specs.Superblock.{geometry_of}
use Rattle.ufs_layout.specs.declared.geometry.Geometry.{Geometry}
use Rattle.ufs_layout.specs.declared.records.Committed.{Committed}
use Rattle.ufs_layout.specs.declared.superblock.Super.{Super}
use Rattle.ufs_model.specs.FileBytes.{bytes_of}
use Rattle.ufs_model.specs.PosixTree.{Paths}
use Rattle.ufs_crash_laws.specs.Changes.{names_of}
use Rattle.ufs_crash_laws.specs.FileChanges.{all_changed}
use Rattle.ufs_ledger.specs.Ledger.{IsDataBlock, is_held, with_one, Ledger, IsLeftBy, IsLedgerOf}
use Rattle.ufs_ledger.specs.Data.{KeepsData}
use Rattle.ufs_ledger.specs.Changes.{committing, committed_one, settled, beginning, emptied}
use Rattle.ufs_ledger.specs.Kept.{Numbers}
use Rattle.ufs_hand_laws.specs.Owned.{Has, times}
use Rattle.ufs_hand_laws.specs.Parts.{FilePart, NamesPart, StorePart, View, Start, uses, committed}
use Rattle.ufs_hand_laws.specs.DiskBytes.{is_loaded}
use Rattle.ufs_hand_laws.specs.Marks.{IsMadeBy}
use Rattle.ufs_hand_laws.specs.Commits.{AreFresh}
use Rattle.ufs_hand_laws.specs.Meets.{HaveTheirBytes}
use Rattle.ufs_hand_laws.specs.Events.{MayCommitFile, MayCommitNames, Failure, MayFail, MayCheckpoint}
use Rattle.ufs_hand_laws.specs.ByImages.{by_images}
use Rattle.ufs_store_steps.specs.Cells.{cells_of}
use Rattle.ufs_store_steps.specs.Files.{CommitsBytes, CommitsPaths}
use Rattle.ufs_store_steps.specs.Steps.{IsBefore}
use Rattle.ufs_store_steps.specs.Runs.{WentThrough, passed_cells}

-- a fault, behind which the disk was left in the last state that it went through
abbrev pub failure_of : ℕ → ℕ → Moments → List State → Failure
failure_of fault sectors new passed = record { fault = fault; through = cells_of sectors new.state ∷ passed_cells sectors passed; state = cells_of sectors new.state }

-- Nothing is folded in the blocks of other parts, nor in those of the hand's files that aren't in memory.
pub record AreBlocksUnheld (g : Geometry) (k : Start) (v : View) (log : List Committed) : Type 0 where
  pub others : (b : ℕ) → uses b v ≡ 0 → 1 ≤ uses b k.view → IsDataBlock g b × (is_held log b ≡ false)
  pub own : (file : ℕ) (x : FilePart) → Has (file, x) v.files → (place b : ℕ) → slice_get x.blocks place ≡ Some b → is_loaded x place ≡ false → IsDataBlock g b × (is_held log b ≡ false)

-- ---- a commit of a file

-- What a store knows that commits a file: the file is the hand's, it is born, and it was lent to the store.
pub record CommitsItsFile (k : Start) (v : View) (s : StorePart) (paths : Paths) (file : ℕ) (x : FilePart) : Type 0 where
  pub only : v.files ≡ (file, x) ∷ []
  pub store : v.store ≡ (tt, s) ∷ []
  pub born : x.born ≡ true
  pub told : s.paths ≡ Some paths
  pub lent : s.lent ≡ (file, length x.changes) ∷ []
  pub made : committed s file ≤ length x.changes
  pub bytes : all_changed (bytes_of k.tree.bytes file) x.changes ≡ x.bytes

-- what the ledger's clauses say of a commit, passed or failed
pub record CommitRuns (keeps : Bool) (g : Geometry) (sectors : ℕ) (old new : Moments) (passed : List State) (l : Ledger) (t : Committed) : Type 0 where
  pub kept : IsTrue keeps
  pub large : sector_count g ≤ sectors
  pub went : WentThrough old new passed
  pub crash : LeavesOnly keeps (λ image. IsLeftBy sectors l image ⊎ IsLeftBy sectors (committing t (settled l)) image) old new
  pub data' : LeavesOnly keeps (KeepsData g l.now.log old.state) old new

-- A commit of a file that passed may be marked.
abbrev pub FileCommitsMark : Geometry → Type 0
FileCommitsMark g = (keeps : Bool) (sectors : ℕ) (old new : Moments) (passed : List State) (l : Ledger) (t : Committed) (n : Numbers) (paths : Paths) (k : Start) (tickets : ℕ) (v : View) (s : StorePart) (file : ℕ) (x : FilePart)
    → IsBefore g sectors old.state l n paths s.state → CommitRuns keeps g sectors old new passed l t → IsLedgerOf sectors new.state (committed_one t l)
    → CommitsBytes g (settled l).blocks l.now (with_one g t l.now) n paths file x.bytes → CommitsItsFile k v s paths file x → AreBlocksUnheld g k v (with_one g t l.now).log
    → MayCommitFile by_images k tickets v file x s (passed_cells sectors passed) (cells_of sectors new.state)

-- So may one that failed, by a fault that is new.
abbrev pub FailedFileCommitsMark : Geometry → Type 0
FailedFileCommitsMark g = (keeps : Bool) (sectors : ℕ) (old new : Moments) (passed : List State) (l : Ledger) (t : Committed) (n : Numbers) (paths : Paths) (k : Start) (v : View) (s : StorePart) (file : ℕ) (x : FilePart) (fault : ℕ)
    → IsBefore g sectors old.state l n paths s.state → CommitRuns keeps g sectors old new passed l t → IsLedgerOf sectors new.state l ⊎ IsLedgerOf sectors new.state (committing t (settled l))
    → CommitsBytes g (settled l).blocks l.now (with_one g t l.now) n paths file x.bytes → CommitsItsFile k v s paths file x → AreBlocksUnheld g k v (with_one g t l.now).log
    → s.stop ≡ None → times fault s.faults ≡ 0
    → MayFail by_images k v s (failure_of fault sectors new passed)

-- ---- a commit of names

-- What a store knows that commits names: they are the hand's, and were lent to the store.
pub record CommitsItsNames (k : Start) (v : View) (s : StorePart) (paths : Paths) (fresh : ℕ → Bool) (p : NamesPart) : Type 0 where
  pub names : v.names ≡ (tt, p) ∷ []
  pub store : v.store ≡ (tt, s) ∷ []
  pub told : s.paths ≡ Some paths
  pub lent : s.lent_names ≡ length p.changes
  pub made : s.names ≤ length p.changes
  -- by the history from which the hand's parts come
  pub last_names : (slice_index_or (names_of k.tree ∷ p.changes) (length p.changes) (names_of k.tree)).paths ≡ p.paths
  -- as of the files that the committed names haven't born
  pub new : AreFresh fresh k.tree (committed s)

-- Which blocks are committed then, and which files are born: of dropped files none are committed, and none come; those of
-- directories are the names'; and a change of names made each file that is born.
pub record DropsBlocks (p : NamesPart) (s : StorePart) (extents : fin.FinMap nat_cmp (List ℕ)) (dirs born : List ℕ) : Type 0 where
  pub fewer : (g : ℕ) (bs : List ℕ) → fin.get extents g ≡ Some bs → fin.get s.extents g ≡ Some bs
  pub gone : (g : ℕ) (bs : List ℕ) → Has (g, bs) p.dropped → fin.get extents g ≡ None
  pub dirs' : ((b : ℕ) → Has b s.dirs → Has b p.blocks) → (b : ℕ) → Has b dirs → Has b p.blocks
  pub born' : (g : ℕ) → Has g born → Has g p.born ⊎ IsMadeBy p (length p.changes) g

-- A commit of names that passed may be marked.
abbrev pub NameCommitsMark : Geometry → Type 0
NameCommitsMark g = (keeps : Bool) (sectors : ℕ) (old new : Moments) (passed : List State) (l : Ledger) (t : Committed) (n m : Numbers) (paths : Paths) (fresh : ℕ → Bool) (k : Start) (tickets : ℕ) (v : View) (p : NamesPart) (s : StorePart) (extents : fin.FinMap nat_cmp (List ℕ)) (dirs born : List ℕ)
    → IsBefore g sectors old.state l n paths s.state → CommitRuns keeps g sectors old new passed l t → IsLedgerOf sectors new.state (committed_one t l)
    → CommitsPaths g l.now (with_one g t l.now) n m paths p.paths fresh → CommitsItsNames k v s paths fresh p → DropsBlocks p s extents dirs born → AreBlocksUnheld g k v (with_one g t l.now).log
    → MayCommitNames by_images k tickets v p s (record { extents = extents; dirs = dirs; born = born; through = passed_cells sectors passed; state = cells_of sectors new.state })

-- So may one that failed, by a fault that is new.
abbrev pub FailedNameCommitsMark : Geometry → Type 0
FailedNameCommitsMark g = (keeps : Bool) (sectors : ℕ) (old new : Moments) (passed : List State) (l : Ledger) (t : Committed) (n m : Numbers) (paths : Paths) (fresh : ℕ → Bool) (k : Start) (v : View) (p : NamesPart) (s : StorePart) (fault : ℕ)
    → IsBefore g sectors old.state l n paths s.state → CommitRuns keeps g sectors old new passed l t → IsLedgerOf sectors new.state l ⊎ IsLedgerOf sectors new.state (committing t (settled l))
    → CommitsPaths g l.now (with_one g t l.now) n m paths p.paths fresh → CommitsItsNames k v s paths fresh p → HaveTheirBytes k v → AreBlocksUnheld g k v (with_one g t l.now).log
    → s.stop ≡ None → times fault s.faults ≡ 0
    → MayFail by_images k v s (failure_of fault sectors new passed)

-- ---- a checkpoint

-- What a store knows that makes a checkpoint: which blocks the names free by it.
pub record FreesBlocks (v : View) (p : NamesPart) (s : StorePart) (dirs blocks freed : List ℕ) : Type 0 where
  pub names : v.names ≡ (tt, p) ∷ []
  pub store : v.store ≡ (tt, s) ∷ []
  pub blocks' : (b : ℕ) → times b blocks + times b freed ≡ times b p.blocks
  pub fewer : (b : ℕ) → Has b dirs → Has b s.dirs
  pub apart : (b : ℕ) → Has b dirs → Has b freed → ⊥

-- A checkpoint that passed may be marked.
abbrev pub CheckpointsMark : Geometry → Type 0
CheckpointsMark g = (keeps : Bool) (sectors : ℕ) (old new : Moments) (passed : List State) (l : Ledger) (superblock : Super) (home : ℕ → List ℕ) (n : Numbers) (paths : Paths) (k : Start) (v : View) (p : NamesPart) (s : StorePart) (dirs blocks freed : List ℕ)
    → IsTrue keeps → sector_count g ≤ sectors → IsBefore g sectors old.state l n paths s.state → WentThrough old new passed → geometry_of superblock ≡ g
    → LeavesOnly keeps (λ image. IsLeftBy sectors l image ⊎ IsLeftBy sectors (beginning superblock home l) image) old new → LeavesOnly keeps (KeepsData g l.now.log old.state) old new → IsLedgerOf sectors new.state (emptied superblock home l)
    → FreesBlocks v p s dirs blocks freed → AreBlocksUnheld g k v l.now.log
    → MayCheckpoint by_images k v p s (record { dirs = dirs; blocks = blocks; freed = freed; through = passed_cells sectors passed; state = cells_of sectors new.state })

-- So may one that failed, by a fault that is new.
abbrev pub FailedCheckpointsMark : Geometry → Type 0
FailedCheckpointsMark g = (keeps : Bool) (sectors : ℕ) (old new : Moments) (passed : List State) (l : Ledger) (superblock : Super) (home : ℕ → List ℕ) (n : Numbers) (paths : Paths) (k : Start) (v : View) (s : StorePart) (fault : ℕ)
    → IsTrue keeps → sector_count g ≤ sectors → IsBefore g sectors old.state l n paths s.state → WentThrough old new passed → geometry_of superblock ≡ g
    → LeavesOnly keeps (λ image. IsLeftBy sectors l image ⊎ IsLeftBy sectors (beginning superblock home l) image) old new → LeavesOnly keeps (KeepsData g l.now.log old.state) old new
    → IsLedgerOf sectors new.state l ⊎ IsLedgerOf sectors new.state (beginning superblock home l)
    → v.store ≡ (tt, s) ∷ [] → AreBlocksUnheld g k v l.now.log → s.stop ≡ None → times fault s.faults ≡ 0
    → MayFail by_images k v s (failure_of fault sectors new passed)

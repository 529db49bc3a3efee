-- The same at each moment of a call, on a disk that keeps its moments: what a mark asks of the states on the way.
use Rattle.std.specs.Prelude.{ℕ, ◌+◌, ◌*◌, ◌≡◌, ◌≤◌, ◌⊎◌, List, ◌++◌, map, Bool, IsTrue, false}
use Rattle.ufs_base.specs.declared.sizes.TheConstants.{SECTORS_PER_BLOCK}
use Rattle.ufs_disk.specs.Disk.{State, IsImage, IsPartlyWritten, Leaves}
use Rattle.ufs_disk.specs.Moments.{Moments, all, LeavesOnly}
use Rattle.ufs_image.specs.Images.{IsImageOf}
use Rattle.ufs_layout.specs.Superblock.{geometry_of}
use Rattle.ufs_layout.specs.declared.geometry.Geometry.{Geometry}
use Rattle.ufs_layout.specs.declared.records.Committed.{Committed}
use Rattle.ufs_layout.specs.declared.superblock.Super.{Super}
use Rattle.ufs_model.specs.PosixTree.{Paths}
use Rattle.ufs_ledger.specs.Ledger.{with_one, Ledger, IsLeftBy}
use Rattle.ufs_ledger.specs.Data.{KeepsData}
use Rattle.ufs_ledger.specs.Changes.{committing, settled, beginning}
use Rattle.ufs_ledger.specs.Kept.{Numbers}
use Rattle.ufs_ledger.specs.Laws.{MayWrite}
use Rattle.ufs_hand_laws.specs.Owned.{Has}
use Rattle.ufs_hand_laws.specs.Parts.{Cells, StorePart, View}
use Rattle.ufs_hand_laws.specs.Shown.{OpensAs}
use Rattle.ufs_hand_laws.specs.Commits.{TreesMayGo, IsFileCommitted, AreNamesCommitted}
use Rattle.ufs_hand_laws.specs.Meets.{AreFilesWrittenBy}
use Rattle.ufs_store_steps.specs.Cells.{cells_of}
use Rattle.ufs_store_steps.specs.Files.{CommitsBytes, CommitsPaths}
use Rattle.ufs_store_steps.specs.Steps.{IsBefore, WritesItsFiles}

-- The disk went through these states, to the one in which it is.
abbrev pub WentThrough : Moments → Moments → List State → Type 0
WentThrough old new passed = all new ≡ all old ++ passed

abbrev pub passed_cells : ℕ → List State → List Cells
passed_cells sectors passed = map (cells_of sectors) passed

-- The state that it is in is the last of them, or the one from before.
abbrev pub LastIsPassed : Type 0
LastIsPassed = (sectors : ℕ) (old new : Moments) (passed : List State) → WentThrough old new passed → (cells_of sectors new.state ≡ cells_of sectors old.state) ⊎ Has (cells_of sectors new.state) (passed_cells sectors passed)

-- a read or a barrier
abbrev pub QuietRuns : Geometry → Type 0
QuietRuns g = (keeps : Bool) (sectors : ℕ) (old new : Moments) (passed : List State) (l : Ledger) (n : Numbers) (paths : Paths) (one : Cells) → IsTrue keeps → IsBefore g sectors old.state l n paths one → WentThrough old new passed
    → LeavesOnly keeps (IsImage old.state) old new → (d : Cells) → Has d (passed_cells sectors passed) → OpensAs one d

-- a checkpoint
abbrev pub CheckpointRuns : Geometry → Type 0
CheckpointRuns g = (keeps : Bool) (sectors : ℕ) (old new : Moments) (passed : List State) (l : Ledger) (n : Numbers) (paths : Paths) (one : Cells) (superblock : Super) (home : ℕ → List ℕ) → IsTrue keeps → IsBefore g sectors old.state l n paths one
    → WentThrough old new passed → geometry_of superblock ≡ g → LeavesOnly keeps (KeepsData g l.now.log old.state) old new → LeavesOnly keeps (λ image. IsLeftBy sectors l image ⊎ IsLeftBy sectors (beginning superblock home l) image) old new
    → (d : Cells) → Has d (passed_cells sectors passed) → OpensAs one d

-- a write
abbrev pub WriteRuns : Geometry → Type 0
WriteRuns g = (keeps : Bool) (sectors : ℕ) (old new : Moments) (passed : List State) (l : Ledger) (n : Numbers) (paths : Paths) (one : Cells) (block : ℕ) (bytes : List ℕ) (v : View) (s : StorePart) → IsTrue keeps
    → IsBefore g sectors old.state l n paths one → WentThrough old new passed → Leaves (IsImageOf sectors) old.state → l.superblock.clean ≡ false → MayWrite l block bytes → SECTORS_PER_BLOCK * block + SECTORS_PER_BLOCK ≤ sectors → WritesItsFiles v s l.now n block bytes
    → LeavesOnly keeps (IsPartlyWritten (SECTORS_PER_BLOCK * block) bytes old.state) old new → (d : Cells) → Has d (passed_cells sectors passed) → TreesMayGo (AreFilesWrittenBy v s paths) one d

-- a commit of a file
abbrev pub FileCommitRuns : Geometry → Type 0
FileCommitRuns g = (keeps : Bool) (sectors : ℕ) (old new : Moments) (passed : List State) (l : Ledger) (n : Numbers) (paths : Paths) (one : Cells) (t : Committed) (file : ℕ) (bytes : List ℕ) → IsTrue keeps → IsBefore g sectors old.state l n paths one
    → WentThrough old new passed → CommitsBytes g (settled l).blocks l.now (with_one g t l.now) n paths file bytes
    → LeavesOnly keeps (KeepsData g l.now.log old.state) old new → LeavesOnly keeps (λ image. IsLeftBy sectors l image ⊎ IsLeftBy sectors (committing t (settled l)) image) old new
    → (d : Cells) → Has d (passed_cells sectors passed) → TreesMayGo (IsFileCommitted paths file bytes) one d

-- a commit of names
abbrev pub NameCommitRuns : Geometry → Type 0
NameCommitRuns g = (keeps : Bool) (sectors : ℕ) (old new : Moments) (passed : List State) (l : Ledger) (n m : Numbers) (paths next : Paths) (fresh : ℕ → Bool) (one : Cells) (t : Committed) → IsTrue keeps → IsBefore g sectors old.state l n paths one
    → WentThrough old new passed → CommitsPaths g l.now (with_one g t l.now) n m paths next fresh
    → LeavesOnly keeps (KeepsData g l.now.log old.state) old new → LeavesOnly keeps (λ image. IsLeftBy sectors l image ⊎ IsLeftBy sectors (committing t (settled l)) image) old new
    → (d : Cells) → Has d (passed_cells sectors passed) → TreesMayGo (AreNamesCommitted fresh paths next) one d

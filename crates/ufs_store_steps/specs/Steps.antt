-- What the store's calls leave of a disk, by its ledger, is what the sound state asks for at a mark: each image that a crash may
-- leave comes from one of before, and opens as that one does or to a tree that stands so to its tree.
use Rattle.std.specs.Prelude.{ℕ, ◌+◌, ◌*◌, ◌≡◌, ◌≤◌, ◌<◌, ◌⊎◌, List, Bool, false, Some, None, slice_get, length}
use Rattle.ufs_base.specs.declared.sizes.TheConstants.{BLOCK, SECTORS_PER_BLOCK}
use Rattle.ufs_disk.specs.Disk.{Cell, State, IsImage, IsPartlyWritten, Leaves}
use Rattle.ufs_image.specs.Images.{IsImageOf}
use Rattle.ufs_layout.specs.Superblock.{geometry_of}
use Rattle.ufs_layout.specs.declared.geometry.Geometry.{Geometry}
use Rattle.ufs_layout.specs.declared.inode.Extent.{Extent}
use Rattle.ufs_layout.specs.declared.records.Committed.{Committed}
use Rattle.ufs_layout.specs.declared.superblock.Super.{Super}
use Rattle.ufs_image.specs.Folding.{file_commit}
use Rattle.ufs_image.specs.Sound.{IsSoundCatalog}
use Rattle.ufs_model.specs.FileBytes.{bytes_of}
use Rattle.ufs_model.specs.PosixTree.{PosixTree, Paths}
use Rattle.ufs_model.specs.declared.data.Entry.{Entry}
use Rattle.ufs_crash_laws.specs.Changes.{changes_of, names_after}
use Rattle.ufs_crash_laws.specs.FileChanges.{all_changed, byte_at}
use Rattle.ufs_ledger.specs.Ledger.{IsDataBlock, is_held, Stand, CoversDirs, with_one, Ledger, IsLeftBy, IsLedgerOf}
use Rattle.ufs_ledger.specs.Data.{KeepsData}
use Rattle.ufs_ledger.specs.Changes.{committing, committed_one, settled, beginning, emptied}
use Rattle.ufs_ledger.specs.Kept.{Numbers, shape_of, IsStandStored, IsStandKept}
use Rattle.ufs_ledger.specs.Laws.{MayWrite, MayCommitFile}
use Rattle.ufs_hand_laws.specs.Owned.{Has}
use Rattle.ufs_hand_laws.specs.Parts.{Cells, FilePart, StorePart, View}
use Rattle.ufs_hand_laws.specs.DiskBytes.{block_on}
use Rattle.ufs_hand_laws.specs.Shown.{OpensAs}
use Rattle.ufs_hand_laws.specs.Commits.{TreesGo, TreesMayGo, IsFileCommitted, AreNamesCommitted}
use Rattle.ufs_hand_laws.specs.Meets.{AreFilesWrittenBy}
use Rattle.ufs_store_steps.specs.Cells.{cells_of, AreCellsOf}
use Rattle.ufs_store_steps.specs.Files.{HasFiles, CommitsBytes, CommitsPaths}

-- ---- cells

abbrev pub CellsAreThere : Type 0
CellsAreThere = (sectors : ℕ) (state : State) → AreCellsOf sectors state (cells_of sectors state)

-- A block in which nothing is folded is on the disk as its cell reads.
abbrev pub BlocksRead : Type 0
BlocksRead = (sectors : ℕ) (state : State) (l : Ledger) (cells : Cells) (block : ℕ) → AreCellsOf sectors state cells → IsLedgerOf sectors state l → IsDataBlock (geometry_of l.superblock) block → is_held l.now.log block ≡ false
    → SECTORS_PER_BLOCK * block + SECTORS_PER_BLOCK ≤ sectors → block_on cells block ≡ (l.blocks block).seen

-- A stand that a history stores has the files of its names.
abbrev pub StoredHasFiles : Geometry → Type 0
StoredHasFiles g = (blocks : ℕ → Cell) (s : Stand) (start : PosixTree) (history : List Entry) (names : ℕ) (files : ℕ → ℕ) (n : Numbers) → IsStandStored g blocks s start history names files n
    → HasFiles g s n (names_after start history names).paths

-- ---- what a state of the disk is before a call

pub record IsBefore (g : Geometry) (sectors : ℕ) (state : State) (l : Ledger) (n : Numbers) (paths : Paths) (cells : Cells) : Type 0 where
  pub geometry : geometry_of l.superblock ≡ g
  pub none : l.maybe ≡ None
  pub ledger : IsLedgerOf sectors state l
  pub files : HasFiles g l.now n paths
  pub told : AreCellsOf sectors state cells

-- ---- a read, a barrier, a checkpoint: passed, failed, and on the way

-- Where it leaves no more than before, each image opens as one of before does.
abbrev pub QuietCallsOpenAlike : Geometry → Type 0
QuietCallsOpenAlike g = (sectors : ℕ) (old new : State) (l : Ledger) (n : Numbers) (paths : Paths) (one other : Cells) → IsBefore g sectors old l n paths one → AreCellsOf sectors new other → Leaves (IsImage old) new → OpensAs one other

-- So while everything is written home and the next epoch begins,
abbrev pub CheckpointsOpenAlike : Geometry → Type 0
CheckpointsOpenAlike g = (sectors : ℕ) (old new : State) (l : Ledger) (n : Numbers) (paths : Paths) (one other : Cells) (superblock : Super) (home : ℕ → List ℕ) → IsBefore g sectors old l n paths one → AreCellsOf sectors new other
    → geometry_of superblock ≡ g → Leaves (KeepsData g l.now.log old) new → Leaves (λ image. IsLeftBy sectors l image ⊎ IsLeftBy sectors (beginning superblock home l) image) new → OpensAs one other

-- and after it.
abbrev pub EmptiedOpensAlike : Geometry → Type 0
EmptiedOpensAlike g = (sectors : ℕ) (old new : State) (l : Ledger) (n : Numbers) (paths : Paths) (one other : Cells) (superblock : Super) (home : ℕ → List ℕ) → IsBefore g sectors old l n paths one → AreCellsOf sectors new other
    → geometry_of superblock ≡ g → Leaves (KeepsData g l.now.log old) new → IsLedgerOf sectors new (emptied superblock home l) → OpensAs one other

-- ---- a write

-- These are the bytes that the file has there, wherever the block is a place of a file; and such a file is the hand's, and was
-- lent to the store.
abbrev pub WritesItsFiles : View → StorePart → Stand → Numbers → ℕ → List ℕ → Type 0
WritesItsFiles v s stand n block bytes = (file place : ℕ) → slice_get (shape_of stand.catalog (n.inode file)).holds place ≡ Some block
    → (x : FilePart) × Has (file, x) v.files × Has (file, length x.changes) s.lent
    × ((at : ℕ) → at < BLOCK → BLOCK * place + at < (shape_of stand.catalog (n.inode file)).size → byte_at bytes at ≡ byte_at x.bytes (BLOCK * place + at))

-- Each tree has the files written back, at each moment of the call, whether it passes or fails.
abbrev pub WritesGo : Geometry → Type 0
WritesGo g = (sectors : ℕ) (old new : State) (l : Ledger) (n : Numbers) (paths : Paths) (one other : Cells) (block : ℕ) (bytes : List ℕ) (v : View) (s : StorePart) → IsBefore g sectors old l n paths one → AreCellsOf sectors new other
    → Leaves (IsImageOf sectors) old → l.superblock.clean ≡ false → MayWrite l block bytes → SECTORS_PER_BLOCK * block + SECTORS_PER_BLOCK ≤ sectors → WritesItsFiles v s l.now n block bytes
    → Leaves (IsPartlyWritten (SECTORS_PER_BLOCK * block) bytes old) new → TreesGo (AreFilesWrittenBy v s paths) one other

-- ---- a commit of a file

-- What a file's commit does, where the history keeps what is committed.
abbrev pub FilesCommitBytes : Geometry → Type 0
FilesCommitBytes g = (blocks : ℕ → Cell) (s : Stand) (start : PosixTree) (history : List Entry) (names : ℕ) (files : ℕ → ℕ) (n : Numbers) (file inode number size keep : ℕ) (extents : List Extent)
    → IsSoundCatalog g s.catalog → CoversDirs g s → IsStandKept g blocks s start history names files n → MayCommitFile g blocks s start history files n file inode number size keep extents
    → CommitsBytes g blocks s (with_one g (file_commit number inode size keep extents) s) n (names_after start history names).paths file (all_changed (bytes_of start.bytes file) (changes_of file start history))

-- While it is committed, and where that failed,
abbrev pub FileCommitsMayGo : Geometry → Type 0
FileCommitsMayGo g = (sectors : ℕ) (old new : State) (l : Ledger) (n : Numbers) (paths : Paths) (one other : Cells) (t : Committed) (file : ℕ) (bytes : List ℕ) → IsBefore g sectors old l n paths one → AreCellsOf sectors new other
    → CommitsBytes g (settled l).blocks l.now (with_one g t l.now) n paths file bytes
    → Leaves (KeepsData g l.now.log old) new → Leaves (λ image. IsLeftBy sectors l image ⊎ IsLeftBy sectors (committing t (settled l)) image) new → TreesMayGo (IsFileCommitted paths file bytes) one other

-- and where it passed.
abbrev pub FileCommitsGo : Geometry → Type 0
FileCommitsGo g = (sectors : ℕ) (old new : State) (l : Ledger) (n : Numbers) (paths : Paths) (one other : Cells) (t : Committed) (file : ℕ) (bytes : List ℕ) → IsBefore g sectors old l n paths one → AreCellsOf sectors new other
    → CommitsBytes g (settled l).blocks l.now (with_one g t l.now) n paths file bytes
    → Leaves (KeepsData g l.now.log old) new → IsLedgerOf sectors new (committed_one t l) → TreesGo (IsFileCommitted paths file bytes) one other

-- ---- a commit of names

-- While they are committed, and where that failed,
abbrev pub NameCommitsMayGo : Geometry → Type 0
NameCommitsMayGo g = (sectors : ℕ) (old new : State) (l : Ledger) (n m : Numbers) (paths next : Paths) (fresh : ℕ → Bool) (one other : Cells) (t : Committed) → IsBefore g sectors old l n paths one → AreCellsOf sectors new other
    → CommitsPaths g l.now (with_one g t l.now) n m paths next fresh
    → Leaves (KeepsData g l.now.log old) new → Leaves (λ image. IsLeftBy sectors l image ⊎ IsLeftBy sectors (committing t (settled l)) image) new → TreesMayGo (AreNamesCommitted fresh paths next) one other

-- and where that passed.
abbrev pub NameCommitsGo : Geometry → Type 0
NameCommitsGo g = (sectors : ℕ) (old new : State) (l : Ledger) (n m : Numbers) (paths next : Paths) (fresh : ℕ → Bool) (one other : Cells) (t : Committed) → IsBefore g sectors old l n paths one → AreCellsOf sectors new other
    → CommitsPaths g l.now (with_one g t l.now) n m paths next fresh
    → Leaves (KeepsData g l.now.log old) new → IsLedgerOf sectors new (committed_one t l) → TreesGo (AreNamesCommitted fresh paths next) one other

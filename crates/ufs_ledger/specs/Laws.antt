-- What the ledger promises, and how it goes on at each moment of a store's calls.
use Rattle.std.specs.Prelude.{ℕ, ◌≡◌, ◌≤◌, ◌<◌, ◌+◌, ◌*◌, ◌⊎◌, List, [], ◌∷◌, ◌++◌, length, take, replicate, Bool, IsTrue, false, ◌==◌, if◌then◌else◌, None, Some, Ok}
use Rattle.std.specs.List.{slice_get}
use Rattle.ufs_base.specs.declared.sizes.TheConstants.{BLOCK, SECTORS_PER_BLOCK}
use Rattle.ufs_disk.specs.Disk.{Cell, State, IsImage, possible, Leaves, IsSettled, IsPartlyWritten, Mixes, overwritten, put, seen}
use Rattle.ufs_disk.specs.Moments.{Moments, LeavesOnly}
use Rattle.ufs_layout.specs.Superblock.{geometry_of, super_of}
use Rattle.ufs_base.specs.Images.{Image}
use Rattle.ufs_image.specs.Images.{IsImageOf, block_at}
use Rattle.ufs_image.specs.Fold.{folded, after_delta}
use Rattle.ufs_image.specs.Damage.{bad_tree}
use Rattle.ufs_image.specs.Proper.{IsProperClean, IsProperImage}
use Rattle.ufs_image.specs.Volume.{Volume, volume}
use Rattle.ufs_image.specs.Nodes.{blocks_of}
use Rattle.ufs_layout.specs.declared.inode.Extent.{Extent}
use Rattle.ufs_layout.specs.declared.geometry.Geometry.{Geometry}
use Rattle.ufs_layout.specs.declared.superblock.Super.{Super}
use Rattle.ufs_layout.specs.declared.records.Committed.{Committed}
use Rattle.ufs_model.specs.PosixTree.{PosixTree, IsTree}
use Rattle.ufs_model.specs.FileBytes.{bytes_of}
use Rattle.ufs_model.specs.History.{IsLegal, tree_after}
use Rattle.ufs_model.specs.declared.data.Entry.{Entry}
use Rattle.ufs_journal.specs.Found.{IsFreeFrom}
use Rattle.ufs_journal.specs.Kept.{HasEarlier}
use Rattle.ufs_journal.specs.Written.{IsAppended, IsMaybeCommitted, CommitsOne}
use Rattle.ufs_crash_laws.specs.FileChanges.{all_changed, byte_at}
use Rattle.ufs_crash_laws.specs.Changes.{changes_of, name_changes, names_after}
use Rattle.ufs_crash_laws.specs.Explained.{IsCovering}
use Rattle.ufs_crash_laws.specs.Stored.{IsNamed}
use Rattle.ufs_crash_laws.specs.Explained.{IsAckCovered}
use Rattle.ufs_crash_laws.specs.declared.data.FileChange.{FileChange}
use Rattle.ufs_image.specs.Catalog.{IsInode, HasBlock}
use Rattle.ufs_image.specs.Sound.{IsSoundCatalog}
use Rattle.ufs_image.specs.Changes.{MayBecome}
use Rattle.ufs_image.specs.Folding.{FitsCommitted}
use Rattle.ufs_image.specs.Folding.{file_commit}
use Rattle.ufs_overlay.specs.Over.{IsHomeWritten}
use Rattle.ufs_ledger.specs.Ledger.{IsDataBlock, HasByte, is_held, Stand, CoversDirs, with_one, IsLeft, Standing, Ledger, IsLeftBy, IsLedgerOf}
use Rattle.ufs_ledger.specs.Changes.{MayCommit, committing, settled, committed_one, rewritten, written, tried, beginning, emptied, with_dirs, with_free_block, opening_ledger}
use Rattle.ufs_ledger.specs.Kept.{Numbers, IsNumberedBy, Shape, shape_of, MayHave, AlwaysShows, IsStandStored, IsStandKept, Counts, IsLedgerKept, IsLedgerStored, OpensExplained, OpensExplainedFrom}

-- What a crash leaves opens to a tree that the history explains, where it is kept so.
abbrev pub OpensAsKept : Geometry → Type 0
OpensAsKept g = (sectors : ℕ) (superblock : Super) (blocks : ℕ → Cell) (s : Stand) (image : Image) (start : PosixTree) (history : List Entry) (names : ℕ) (files : ℕ → ℕ) (n : Numbers)
    → geometry_of superblock ≡ g → IsLeft sectors superblock blocks s image → IsStandKept g blocks s start history names files n → OpensExplained sectors start history image

-- What stands on the disk after the first entries, by numbers that cover what is acknowledged by more of them, is explained by
-- each number of entries between.
abbrev pub OpensMeanwhile : Geometry → Type 0
OpensMeanwhile g = (sectors : ℕ) (superblock : Super) (blocks : ℕ → Cell) (s : Stand) (image : Image) (start : PosixTree) (history : List Entry) (from to names : ℕ) (files : ℕ → ℕ) (n : Numbers)
    → geometry_of superblock ≡ g → IsLeft sectors superblock blocks s image → IsStandStored g blocks s start (take from history) names files n → IsCovering start (take to history) names files → OpensExplainedFrom sectors start history from to image

-- So with a whole ledger.
abbrev pub LedgersExplain : Geometry → Type 0
LedgersExplain g = (sectors : ℕ) (l : Ledger) (image : Image) (start : PosixTree) (history : List Entry) (now maybe : Counts) → geometry_of l.superblock ≡ g → IsLeftBy sectors l image → IsLedgerKept l start history now maybe
    → OpensExplained sectors start history image

-- Whatever a crash leaves is a proper image.
abbrev pub LeftIsProper : Geometry → Type 0
LeftIsProper g = (sectors : ℕ) (l : Ledger) (image : Image) → geometry_of l.superblock ≡ g → ((other : Standing) → l.maybe ≡ Some other → geometry_of other.superblock ≡ g) → IsLeftBy sectors l image → IsProperImage sectors image

-- ---- how the promise is kept

-- Fewer contents keep it: a barrier.
abbrev pub FewerAreKept : Geometry → Type 0
FewerAreKept g = (blocks others : ℕ → Cell) (s : Stand) (start : PosixTree) (history : List Entry) (names : ℕ) (files : ℕ → ℕ) (n : Numbers)
    → ((block place byte : ℕ) → HasByte (possible (others block)) place byte → HasByte (possible (blocks block)) place byte) → IsStandKept g blocks s start history names files n → IsStandKept g others s start history names files n

-- Wherever the block is a place of a file, these are the bytes that the file has there now.
abbrev pub HasBytesNow : Stand → Numbers → PosixTree → List Entry → ℕ → List ℕ → Type 0
HasBytesNow s n start history block bytes = (file place : ℕ) → slice_get (shape_of s.catalog (n.inode file)).holds place ≡ Some block
    → (at : ℕ) → at < BLOCK → BLOCK * place + at < (shape_of s.catalog (n.inode file)).size
    → byte_at bytes at ≡ byte_at (all_changed (bytes_of start.bytes file) (changes_of file start history)) (BLOCK * place + at)

-- A block gets such bytes: a write.
abbrev pub WritingKeeps : Geometry → Type 0
WritingKeeps g = (blocks : ℕ → Cell) (s : Stand) (block : ℕ) (bytes : List ℕ) (start : PosixTree) (history : List Entry) (names : ℕ) (files : ℕ → ℕ) (n : Numbers)
    → HasBytesNow s n start history block bytes → IsStandKept g blocks s start history names files n → IsStandKept g (rewritten block bytes blocks) s start history names files n

-- An entry is drawn, and what it acknowledges is covered.
abbrev pub EntriesKeep : Geometry → Type 0
EntriesKeep g = (blocks : ℕ → Cell) (s : Stand) (start : PosixTree) (history : List Entry) (entry : Entry) (names : ℕ) (files : ℕ → ℕ) (n : Numbers) → IsTree start → IsLegal start (history ++ entry ∷ [])
    → IsAckCovered start history entry names files → IsStandKept g blocks s start history names files n → IsStandKept g blocks s start (history ++ entry ∷ []) names files n

-- The disk stands elsewhere after a commit: no number is lower, and each file has what it had, or shows its number anew.
pub record StandsOn (g : Geometry) (blocks : ℕ → Cell) (s t : Stand) (start : PosixTree) (history : List Entry) (names more : ℕ) (files others : ℕ → ℕ) (n m : Numbers) : Type 0 where
  pub later : names ≤ more
  pub made : more ≤ length (name_changes start history)
  pub paths : IsNumberedBy t.catalog m (names_after start history more).paths
  pub inodes : (file inode : ℕ) → m.inode file ≡ Some inode → IsInode g inode × ((t.catalog.forms inode).kind ≡ 1)
  pub unheld : (inode place block : ℕ) → HasBlock g t.catalog inode place block → (t.catalog.forms inode).kind ≡ 1 → is_held t.log block ≡ false
  pub rises : (file : ℕ) → files file ≤ others file
  pub each : (count file : ℕ) → more ≤ count → count ≤ length (name_changes start history) → IsNamed (names_after start history count).paths file
      → ((others file ≡ files file) × (shape_of t.catalog (m.inode file) ≡ shape_of s.catalog (n.inode file)))
      ⊎ AlwaysShows blocks (shape_of t.catalog (m.inode file)) (bytes_of start.bytes file) (changes_of file start history) (others file)
  pub fresh : (file : ℕ) → (tree_after start history).next ≤ file → (others file ≡ 0) × (m.inode file ≡ None)

abbrev pub CommitsKeep : Geometry → Type 0
CommitsKeep g = (blocks : ℕ → Cell) (s t : Stand) (start : PosixTree) (history : List Entry) (names more : ℕ) (files others : ℕ → ℕ) (n m : Numbers) → IsTree start → IsLegal start history
    → StandsOn g blocks s t start history names more files others n m → IsStandKept g blocks s start history names files n → IsStandKept g blocks t start history more others m

-- Blocks that show what a file has now show all its changes: what a commit of the file needs.
abbrev pub ShowsNow : Type 0
ShowsNow = (blocks : ℕ → Cell) (shape : Shape) (opening : List ℕ) (changes : List FileChange) → shape.size ≡ length (all_changed opening changes)
    → ((place byte : ℕ) → place < shape.size → MayHave blocks shape place byte → byte ≡ byte_at (all_changed opening changes) place) → AlwaysShows blocks shape opening changes (length changes)

-- ---- a barrier

-- A state that reads alike and leaves no more than before has the same ledger.
abbrev pub BarriersKeep : ℕ → Type 0
BarriersKeep sectors = (old new : State) (l : Ledger) → IsLedgerOf sectors old l → Leaves (IsImage old) new → seen new ≡ seen old → IsLedgerOf sectors new l

-- Where it leaves one content in each sector, every cell is settled.
abbrev pub BarriersSettle : ℕ → Type 0
BarriersSettle sectors = (old new : State) (l : Ledger) → IsLedgerOf sectors old l → Leaves (IsImage old) new → seen new ≡ seen old → l.maybe ≡ None → IsSettled new → IsLedgerOf sectors new (settled l)

-- ---- a block

-- the block may be written: it is of the data area, and no dentry is spelled there
pub record MayWrite (l : Ledger) (block : ℕ) (bytes : List ℕ) : Type 0 where
  pub data_block : IsDataBlock (geometry_of l.superblock) block
  pub no_dir : IsTrue (l.now.dirs block) → ⊥
  pub size : length bytes ≡ BLOCK

-- At each moment of a write a crash leaves what the ledger has with one more content in that block.
abbrev pub WritesBlock : ℕ → Type 0
WritesBlock sectors = (old : State) (l : Ledger) (block : ℕ) (bytes : List ℕ) (image : Image) → Leaves (IsImageOf sectors) old → l.maybe ≡ None → l.superblock.clean ≡ false → IsLedgerOf sectors old l → MayWrite l block bytes
    → IsPartlyWritten (SECTORS_PER_BLOCK * block) bytes old image → IsLeftBy sectors (written block bytes l) image

-- So it is after a write that passed,
abbrev pub HasWritten : ℕ → Type 0
HasWritten sectors = (old new : State) (l : Ledger) (block : ℕ) (bytes : List ℕ) → Leaves (IsImageOf sectors) old → l.maybe ≡ None → l.superblock.clean ≡ false → IsLedgerOf sectors old l → MayWrite l block bytes
    → Leaves (IsPartlyWritten (SECTORS_PER_BLOCK * block) bytes old) new → seen new ≡ overwritten (SECTORS_PER_BLOCK * block) bytes (seen old) → IsLedgerOf sectors new (written block bytes l)

-- and after one that failed, which may have written some of the sectors.
abbrev pub HasTried : ℕ → Type 0
HasTried sectors = (old new : State) (l : Ledger) (block : ℕ) (bytes : List ℕ) → Leaves (IsImageOf sectors) old → l.maybe ≡ None → l.superblock.clean ≡ false → IsLedgerOf sectors old l → MayWrite l block bytes
    → Leaves (IsPartlyWritten (SECTORS_PER_BLOCK * block) bytes old) new → Mixes (seen old) (overwritten (SECTORS_PER_BLOCK * block) bytes (seen old)) (seen new)
    → IsLedgerOf sectors new (tried block bytes (block_at (seen new) block) l)

-- A settled block of zeros in which nothing is folded may become a directory's: it spells free slots.
abbrev pub ZerosJoin : ℕ → Type 0
ZerosJoin sectors = (state : State) (l : Ledger) (block : ℕ) → Leaves (IsImageOf sectors) state → l.maybe ≡ None → IsLedgerOf sectors state l → IsDataBlock (geometry_of l.superblock) block → is_held l.now.log block ≡ false
    → (IsTrue (l.now.dirs block) → ⊥) → possible (l.blocks block) ≡ replicate BLOCK 0 ∷ [] → IsLedgerOf sectors state (record l { now = with_free_block block l.now })

-- Blocks that no directory has any more may be left out: so a removed directory's block may become a file's.
abbrev pub DirsShrink : ℕ → Type 0
DirsShrink sectors = (state : State) (l : Ledger) (dirs : ℕ → Bool) → l.maybe ≡ None → IsLedgerOf sectors state l → ((block : ℕ) → IsTrue (dirs block) → IsTrue (l.now.dirs block)) → CoversDirs (geometry_of l.superblock) (with_dirs dirs l.now)
    → IsLedgerOf sectors state (record l { now = with_dirs dirs l.now })

-- ---- the journal

-- Appending leaves the ledger.
abbrev pub AppendsQuietly : ℕ → Type 0
AppendsQuietly sectors = (state : State) (l : Ledger) (image : Image) → l.maybe ≡ None → l.superblock.clean ≡ false → IsLedgerOf sectors state l → IsAppended (geometry_of l.superblock) l.superblock.epoch state image → IsLeftBy sectors l image

-- At each moment of a commit a crash leaves what is committed, or the transaction besides.
abbrev pub CommitsOrNot : Geometry → Type 0
CommitsOrNot g = (sectors : ℕ) (state : State) (l : Ledger) (t : Committed) (image : Image) → geometry_of l.superblock ≡ g → l.maybe ≡ None → l.superblock.clean ≡ false → IsLedgerOf sectors state l → l.superblock.next ≤ t.number → MayCommit g t l.now
    → IsMaybeCommitted g l.superblock.epoch t state image → IsLeftBy sectors (committing t l) image

-- Where it succeeds, each crash leaves it.
abbrev pub CommitsForGood : Geometry → Type 0
CommitsForGood g = (sectors : ℕ) (old new : State) (l : Ledger) (t : Committed) → Leaves (IsImageOf sectors) new → geometry_of l.superblock ≡ g → l.maybe ≡ None → l.superblock.clean ≡ false → IsLedgerOf sectors old l → l.superblock.next ≤ t.number → MayCommit g t l.now
    → IsSettled new → CommitsOne g l.superblock.epoch t (seen old) (seen new) → IsLedgerOf sectors new (committed_one t l)

-- ---- a checkpoint

-- Writing home leaves the ledger.
abbrev pub HomesQuietly : ℕ → Type 0
HomesQuietly sectors = (state : State) (l : Ledger) (image : Image) → Leaves (IsImageOf sectors) state → l.maybe ≡ None → l.superblock.clean ≡ false → IsLedgerOf sectors state l
    → IsHomeWritten (geometry_of l.superblock) l.now.log state image → IsLeftBy sectors l image

-- Another superblock with the same geometry, of an image in use, may be written: everything is home, as a read gives it, its epoch
-- is no earlier one, and nothing in the journal has it.
pub record MayBegin (sectors : ℕ) (l : Ledger) (home : Image) (new : Super) (bytes : List ℕ) : Type 0 where
  pub whole : IsImageOf sectors home
  pub left : IsLeft sectors l.superblock l.blocks l.now home
  pub folds : folded (geometry_of l.superblock) l.now.log home ≡ home
  pub reads : (block : ℕ) → IsDataBlock (geometry_of l.superblock) block → is_held l.now.log block ≡ false → block_at home block ≡ (l.blocks block).seen
  pub later : l.superblock.epoch ≤ new.epoch
  pub free : IsFreeFrom (geometry_of l.superblock) new.epoch 0 home
  pub in_use : new.clean ≡ false
  pub spelled : super_of 1 bytes ≡ Some new
  pub geometry : geometry_of new ≡ geometry_of l.superblock

-- So the next epoch begins, and so a disk is marked in use: without the superblock it has the ledger that begins,
abbrev pub BeginsQuietly : ℕ → Type 0
BeginsQuietly sectors = (l : Ledger) (home : Image) (new : Super) (bytes : List ℕ) → MayBegin sectors l home new bytes → IsLeftBy sectors (beginning new (block_at home) l) home

-- with it that ledger too,
abbrev pub BeginsAnew : ℕ → Type 0
BeginsAnew sectors = (l : Ledger) (home : Image) (new : Super) (bytes : List ℕ) → MayBegin sectors l home new bytes → IsLeftBy sectors (beginning new (block_at home) l) (put 0 bytes home)

-- and with it for good the one with an empty journal.
abbrev pub BeginsForGood : ℕ → Type 0
BeginsForGood sectors = (l : Ledger) (home : Image) (new : Super) (bytes : List ℕ) → MayBegin sectors l home new bytes → IsLeftBy sectors (emptied new (block_at home) l) (put 0 bytes home)

-- ---- an inode's new form is committed

-- A form that a file's inode may get next: the commit is newer than the inode, keeps no more extents than there are, is on its form,
-- and the form's blocks are the inode's own. No history is asked.
pub record MayCommitForm (g : Geometry) (s : Stand) (inode number size keep : ℕ) (extents : List Extent) : Type 0 where
  pub newer : (s.catalog.forms inode).number < number
  pub keeps : keep ≤ length (s.catalog.forms inode).extents
  pub fits : FitsCommitted (file_commit number inode size keep extents)
  pub may : MayBecome g s.catalog inode (after_delta (s.catalog.forms inode) number 1 size keep extents)

-- Then the store may commit its delta.
abbrev pub FormsMayCommit : Type 0
FormsMayCommit = (g : Geometry) (s : Stand) (inode number size keep : ℕ) (extents : List Extent) → IsSoundCatalog g s.catalog → CoversDirs g s → MayCommitForm g s inode number size keep extents
    → MayCommit g (file_commit number inode size keep extents) s

-- What a disk has committed is sound, and its directories are in the blocks where dentries are spelled.
abbrev pub LedgersAreSound : Type 0
LedgersAreSound = (sectors : ℕ) (state : State) (l : Ledger) → l.maybe ≡ None → IsLedgerOf sectors state l → IsSoundCatalog (geometry_of l.superblock) l.now.catalog × CoversDirs (geometry_of l.superblock) l.now

-- ---- a file is committed

abbrev pub raised : (ℕ → ℕ) → ℕ → ℕ → ℕ → ℕ
raised files file count other = if other == file then count else files other

-- A file's new form may be committed: its inode is this file's alone, the form's blocks are its own, nothing is folded in them,
-- and whatever a crash leaves there is what the file has now.
pub record MayCommitFile (g : Geometry) (blocks : ℕ → Cell) (s : Stand) (start : PosixTree) (history : List Entry) (files : ℕ → ℕ) (n : Numbers) (file inode number size keep : ℕ) (extents : List Extent) : Type 0 where
  pub there : n.inode file ≡ Some inode
  pub alone : (other : ℕ) → n.inode other ≡ Some inode → other ≡ file
  pub born : file < (tree_after start history).next
  pub counted : files file ≤ length (changes_of file start history)
  pub newer : (s.catalog.forms inode).number < number
  pub keeps : keep ≤ length (s.catalog.forms inode).extents
  pub fits : FitsCommitted (file_commit number inode size keep extents)
  pub may : MayBecome g s.catalog inode (after_delta (s.catalog.forms inode) number 1 size keep extents)
  pub unheld : (place block : ℕ) → slice_get (blocks_of (after_delta (s.catalog.forms inode) number 1 size keep extents)) place ≡ Some block → is_held s.log block ≡ false
  pub sized : size ≡ length (all_changed (bytes_of start.bytes file) (changes_of file start history))
  pub now : (place byte : ℕ) → place < size → MayHave blocks (record { size = size; holds = blocks_of (after_delta (s.catalog.forms inode) number 1 size keep extents) }) place byte
      → byte ≡ byte_at (all_changed (bytes_of start.bytes file) (changes_of file start history)) place

-- Then the store may commit its delta,
abbrev pub FilesMayCommit : Geometry → Type 0
FilesMayCommit g = (blocks : ℕ → Cell) (s : Stand) (start : PosixTree) (history : List Entry) (names : ℕ) (files : ℕ → ℕ) (n : Numbers) (file inode number size keep : ℕ) (extents : List Extent)
    → IsSoundCatalog g s.catalog → CoversDirs g s → IsStandKept g blocks s start history names files n → MayCommitFile g blocks s start history files n file inode number size keep extents
    → MayCommit g (file_commit number inode size keep extents) s

-- and behind it the file shows all its changes.
abbrev pub FilesCommit : Geometry → Type 0
FilesCommit g = (blocks : ℕ → Cell) (s : Stand) (start : PosixTree) (history : List Entry) (names : ℕ) (files : ℕ → ℕ) (n : Numbers) (file inode number size keep : ℕ) (extents : List Extent)
    → IsSoundCatalog g s.catalog → CoversDirs g s → IsStandKept g blocks s start history names files n → MayCommitFile g blocks s start history files n file inode number size keep extents
    → StandsOn g blocks s (with_one g (file_commit number inode size keep extents) s) start history names names files (raised files file (length (changes_of file start history))) n n

-- ---- a directory's new block

-- A block of zeros that becomes a directory's keeps the promise.
abbrev pub FreeBlocksKeep : Geometry → Type 0
FreeBlocksKeep g = (blocks : ℕ → Cell) (s : Stand) (block : ℕ) (start : PosixTree) (history : List Entry) (names : ℕ) (files : ℕ → ℕ) (n : Numbers) → IsSoundCatalog g s.catalog → CoversDirs g s → (IsTrue (s.dirs block) → ⊥)
    → IsStandKept g blocks s start history names files n → IsStandKept g blocks (with_free_block block s) start history names files n

-- ---- a mount

-- A disk on which nothing is pending, which is taken and undamaged, in whose journal everything is of an earlier epoch, and which
-- is as a clean one is to be where it is marked so, has a ledger.
abbrev pub HasOpeningLedger : Geometry → Type 0
HasOpeningLedger g = (sectors : ℕ) (state : State) (v : Volume) → v.geometry ≡ g → Leaves (IsImageOf sectors) state → IsSettled state → volume sectors (seen state) ≡ Ok v → bad_tree v.geometry v.image ≡ None
    → HasEarlier g v.superblock.epoch (seen state) → (IsTrue v.superblock.clean → IsProperClean v (seen state)) → IsLedgerOf sectors state (opening_ledger v.superblock (seen state))

-- ---- runs of calls

-- Where the ledger is kept by a history, each moment of a run that leaves only what the ledger has is explained by it.
abbrev pub RunsExplain : Geometry → Type 0
RunsExplain g = (keeps : Bool) (sectors : ℕ) (old new : Moments) (l : Ledger) (start : PosixTree) (history : List Entry) (now maybe : Counts) → geometry_of l.superblock ≡ g → LeavesOnly keeps (IsLeftBy sectors l) old new
    → IsLedgerKept l start history now maybe → LeavesOnly keeps (OpensExplained sectors start history) old new

-- While entries are drawn: where the ledger stores the first entries, by numbers that cover what is acknowledged by more of
-- them, each moment is explained by each number of entries between.
abbrev pub RunsExplainMeanwhile : Geometry → Type 0
RunsExplainMeanwhile g = (keeps : Bool) (sectors : ℕ) (old new : Moments) (l : Ledger) (start : PosixTree) (history : List Entry) (from to : ℕ) (now maybe : Counts) → geometry_of l.superblock ≡ g → LeavesOnly keeps (IsLeftBy sectors l) old new
    → IsLedgerStored l start (take from history) now maybe → IsCovering start (take to history) now.names now.files → IsCovering start (take to history) maybe.names maybe.files → LeavesOnly keeps (OpensExplainedFrom sectors start history from to) old new

-- The same where it leaves what one of two ledgers has, as a commit and a checkpoint do.
abbrev pub EitherExplains : Geometry → Type 0
EitherExplains g = (keeps : Bool) (sectors : ℕ) (old new : Moments) (l m : Ledger) (start : PosixTree) (history : List Entry) (a b c d : Counts) → geometry_of l.superblock ≡ g → geometry_of m.superblock ≡ g
    → LeavesOnly keeps (λ image. IsLeftBy sectors l image ⊎ IsLeftBy sectors m image) old new → IsLedgerKept l start history a b → IsLedgerKept m start history c d → LeavesOnly keeps (OpensExplained sectors start history) old new

-- ---- how a whole ledger is kept

-- by a write,
abbrev pub WrittenIsKept : Geometry → Type 0
WrittenIsKept g = (l : Ledger) (block : ℕ) (bytes : List ℕ) (start : PosixTree) (history : List Entry) (now maybe : Counts) → geometry_of l.superblock ≡ g → l.maybe ≡ None
    → HasBytesNow l.now now.numbers start history block bytes → IsLedgerKept l start history now maybe → IsLedgerKept (written block bytes l) start history now maybe

-- by a barrier,
abbrev pub SettledIsKept : Geometry → Type 0
SettledIsKept g = (l : Ledger) (start : PosixTree) (history : List Entry) (now maybe : Counts) → geometry_of l.superblock ≡ g → l.maybe ≡ None
    → IsLedgerKept l start history now maybe → IsLedgerKept (settled l) start history now maybe

-- The disk stands elsewhere behind this transaction, as the counts afterwards have it.
abbrev pub GoesOnBy : Geometry → Ledger → Committed → PosixTree → List Entry → (now next : Counts) → Type 0
GoesOnBy g l t start history now next = StandsOn g (settled l).blocks l.now (with_one g t l.now) start history now.names next.names now.files next.files now.numbers next.numbers

-- by a commit, while it is under way and for good where it failed,
abbrev pub CommittingIsKept : Geometry → Type 0
CommittingIsKept g = (l : Ledger) (t : Committed) (start : PosixTree) (history : List Entry) (now next : Counts) → geometry_of l.superblock ≡ g → l.maybe ≡ None → IsTree start → IsLegal start history
    → IsLedgerKept l start history now now → GoesOnBy g l t start history now next → IsLedgerKept (committing t (settled l)) start history now next

-- and where it passed
abbrev pub CommittedIsKept : Geometry → Type 0
CommittedIsKept g = (l : Ledger) (t : Committed) (start : PosixTree) (history : List Entry) (now next : Counts) → geometry_of l.superblock ≡ g → l.maybe ≡ None → IsTree start → IsLegal start history
    → IsLedgerKept l start history now now → GoesOnBy g l t start history now next → IsLedgerKept (committed_one t l) start history next next

-- by a checkpoint, while the next epoch begins and for good where it failed,
abbrev pub BeginningIsKept : Geometry → Type 0
BeginningIsKept g = (l : Ledger) (superblock : Super) (home : ℕ → List ℕ) (start : PosixTree) (history : List Entry) (now maybe : Counts) → geometry_of l.superblock ≡ g → geometry_of superblock ≡ g
    → IsLedgerKept l start history now maybe → IsLedgerKept (beginning superblock home l) start history now now

-- and where it passed
abbrev pub EmptiedIsKept : Geometry → Type 0
EmptiedIsKept g = (l : Ledger) (superblock : Super) (home : ℕ → List ℕ) (start : PosixTree) (history : List Entry) (now maybe : Counts) → geometry_of l.superblock ≡ g → geometry_of superblock ≡ g
    → IsLedgerKept l start history now maybe → IsLedgerKept (emptied superblock home l) start history now now

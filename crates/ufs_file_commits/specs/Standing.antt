-- A file that stands on a ledger.
use Rattle.std.specs.Prelude.{ℕ, ◌≡◌, ◌<◌, ◌++◌, List, length, take, true, false, replicate, IsTrue, Option, Some}
use Rattle.std.specs.List.{slice_get}
use Rattle.std.specs.FinSet as set
use Rattle.ufs_bitmap.specs.Blocks.{BlockSet}
use Rattle.ufs_disk.specs.Disk.{possible}
use Rattle.ufs_extent.specs.declared.Run.{Run}
use Rattle.ufs_extent.specs.Runs.{blocks_of}
use Rattle.ufs_file.specs.Content.{own_bytes}
use Rattle.ufs_file.specs.Hand.{FileState}
use Rattle.ufs_ilog.specs.Deltas.{IsDelta, extents_of}
use Rattle.ufs_image.specs.Catalog.{IsInode}
use Rattle.ufs_image.specs.Fold.{after_delta}
use Rattle.ufs_image.specs.Nodes.{blocks_of as form_blocks}
use Rattle.ufs_layout.specs.Superblock.{geometry_of}
use Rattle.ufs_layout.specs.declared.records.LogRecord.{LogRecord}
use Rattle.ufs_ledger.specs.Changes.{settled}
use Rattle.ufs_ledger.specs.Kept.{MayHave, shape_of}
use Rattle.ufs_ledger.specs.Ledger.{HasByte, IsDataBlock, Ledger, is_held}
use Rattle.ufs_model.specs.declared.data.Desc.{Desc}
use Rattle.ufs_model.specs.declared.data.Op.{Op}
use Rattle.ufs_model.specs.declared.data.Reply.{Reply}
use Rattle.ufs_crash_laws.specs.FileChanges.{byte_at}
use Rattle.ufs_store.specs.Ledgers.{after_commit}
use Rattle.ufs_store.specs.State.{StoreState}
use Rattle.ufs_file_commits.specs.Serving.{IsServedKept}
use Rattle.ufs_file_commits.specs.State.{DurableState, IsNoted, file_committed}
use Rattle.ufs_file_commits.specs.Writes.{MayWriteAll, with_writes, writes_of}

-- Whichever of the contents a crash mixes, the block has these bytes first; nothing is said of what is behind them.
abbrev pub HaveOnly : List (List ℕ) → List ℕ → Type 0
HaveOnly contents bytes = (at byte : ℕ) → at < length bytes → HasByte contents at byte → byte ≡ byte_at bytes at

-- A file may have the block: it is of the data area, and no dentries are spelled or set in it.
pub record IsFileBlock (l : Ledger) (block : ℕ) : Type 0 where
  pub data_block : IsDataBlock (geometry_of l.superblock) block
  pub no_dir : IsTrue (l.now.dirs block) → ⊥
  pub unheld : is_held l.now.log block ≡ false

-- Each block of the file that isn't dirty has the file's bytes, whatever a crash leaves.
abbrev pub ReadsAs : Ledger → FileState → Type 0
ReadsAs l f = (place block : ℕ) → slice_get (blocks_of f.extents) place ≡ Some block → slice_get f.content.dirty place ≡ Some false → HaveOnly (possible (l.blocks block)) (own_bytes f.content.bytes place)

-- Such a block may be a file's besides: nothing is folded in it, and a read gives the file's bytes.
pub record IsReadable (l : Ledger) (f : FileState) : Type 0 where
  pub blocks : (place block : ℕ) → slice_get (blocks_of f.extents) place ≡ Some block → slice_get f.content.dirty place ≡ Some false → IsFileBlock l block
  pub clean : ReadsAs l f

-- Its inode has on the disk what was committed last, and each of its blocks that isn't dirty has the file's bytes, whatever a
-- crash leaves.
pub record StandsFor (l : Ledger) (f : DurableState) : Type 0 where
  pub in_range : IsInode (geometry_of l.superblock) f.file.inode
  pub kind : (l.now.catalog.forms f.file.inode).kind ≡ 1
  pub size : (l.now.catalog.forms f.file.inode).size ≡ f.log.committed.size
  pub extents : (l.now.catalog.forms f.file.inode).extents ≡ extents_of f.log.committed.runs
  pub blocks : (place block : ℕ) → slice_get (blocks_of f.file.extents) place ≡ Some block → IsFileBlock l block
  pub clean : ReadsAs l f.file

-- ---- laws

-- Its dirty blocks may be written.
abbrev pub DirtyMayBeWritten : Type 0
DirtyMayBeWritten = (l : Ledger) (f : DurableState) → IsNoted f → StandsFor l f → MayWriteAll l (writes_of f.file)

-- While they are written it stands on the ledger still.
abbrev pub StandsWhileWritten : Type 0
StandsWhileWritten = (l : Ledger) (f : DurableState) → IsNoted f → StandsFor l f → StandsFor (with_writes (writes_of f.file) l) f

-- Behind the commit of what changed of it, with a higher number, it stands on the next ledger, with nothing left to write.
abbrev pub StandsCommitted : Type 0
StandsCommitted = (s : StoreState) (records : List LogRecord) (l : Ledger) (f : DurableState) → IsNoted f → StandsFor l f → IsDelta f.log.inode f.log.committed f.log.noted records
    → (l.now.catalog.forms f.file.inode).number < s.journal.number → geometry_of (after_commit s records (with_writes (writes_of f.file) l)).superblock ≡ geometry_of l.superblock
    → StandsFor (after_commit s records (with_writes (writes_of f.file) l)) (file_committed f)

-- Before that, behind the barrier with which the commit begins, whatever a crash leaves in the blocks that the inode is to have is
-- what the file has: what a commit of a file asks.
abbrev pub ShowsAsCommitted : Type 0
ShowsAsCommitted = (l : Ledger) (f : DurableState) (number keep : ℕ) (given : List Run) → IsNoted f → StandsFor l f → take keep f.log.committed.runs ++ given ≡ f.log.noted.runs
    → (place byte : ℕ) → place < f.log.noted.size
    → MayHave (settled (with_writes (writes_of f.file) l)).blocks (record { size = f.log.noted.size; holds = form_blocks (after_delta (l.now.catalog.forms f.file.inode) number 1 f.log.noted.size keep (extents_of given)) }) place byte
    → byte ≡ byte_at f.file.content.bytes place

-- So it is behind a barrier, where nothing but bytes changed.
abbrev pub StandsSettled : Type 0
StandsSettled = (l : Ledger) (f : DurableState) → IsNoted f → StandsFor l f → f.log.noted ≡ f.log.committed → StandsFor (settled (with_writes (writes_of f.file) l)) (file_committed f)

-- So it does behind a request, where the pool has only blocks that a file may have.
abbrev pub StandsServed : Type 0
StandsServed = (l : Ledger) (f g : DurableState) (before after : BlockSet) (d : Desc) (request : Op) (reply : Reply) (desc : Option Desc) → IsNoted f → StandsFor l f
    → ((block : ℕ) → set.contains before block ≡ true → IsFileBlock l block) → IsServedKept f g before after d request reply desc → StandsFor l g

-- What isn't dirty behind a request wasn't before, and has the bytes that it had: so the file is readable still, also on a ledger
-- of which no more is known.
abbrev pub ReadsServed : Type 0
ReadsServed = (l : Ledger) (f g : DurableState) (before after : BlockSet) (d : Desc) (request : Op) (reply : Reply) (desc : Option Desc) → IsNoted f → IsReadable l f.file
    → IsServedKept f g before after d request reply desc → IsReadable l g.file

-- Where nothing is left to write or to commit, whatever a crash leaves of the file is what it has.
abbrev pub ShowsTheFile : Type 0
ShowsTheFile = (l : Ledger) (f : DurableState) → IsNoted f → StandsFor l f → f.log.noted ≡ f.log.committed → f.file.content.dirty ≡ replicate (length f.file.content.dirty) false
    → (place byte : ℕ) → place < length f.file.content.bytes → MayHave l.blocks (shape_of l.now.catalog (Some f.file.inode)) place byte → byte ≡ byte_at f.file.content.bytes place

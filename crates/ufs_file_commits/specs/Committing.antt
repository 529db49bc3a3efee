-- What a server has to know of a file to commit it, and what it knows afterwards.
use Rattle.std.specs.Prelude.{ℕ, ◌≡◌, ◌≤◌, ◌<◌, ◌*◌, ◌^◌, ◌++◌, ◌⊎◌, All, List, [], ◌∷◌, length, true, Option, Some}
use Rattle.std.specs.List.{AllByRecursion, slice_get}
use Rattle.std.specs.FinSet as set
use Rattle.ufs_base.specs.declared.sizes.TheConstants.{BLOCK, MAX_EXTENTS}
use Rattle.ufs_bitmap.specs.Blocks.{BlockSet}
use Rattle.ufs_disk.specs.Moments.{Moments}
use Rattle.ufs_extent.specs.Runs.{IsRun, blocks_of}
use Rattle.ufs_file.specs.Hand.{FileState}
use Rattle.ufs_ilog.specs.Deltas.{IsDelta}
use Rattle.ufs_image.specs.Changes.{IsTakenBlock}
use Rattle.ufs_layout.specs.Superblock.{geometry_of}
use Rattle.ufs_layout.specs.declared.records.LogRecord.{LogRecord}
use Rattle.ufs_ledger.specs.Changes.{settled}
use Rattle.ufs_ledger.specs.Kept.{Counts, IsLedgerKept}
use Rattle.ufs_ledger.specs.Laws.{GoesOnBy, raised}
use Rattle.ufs_ledger.specs.Ledger.{Ledger}
use Rattle.ufs_model.specs.FileBytes.{bytes_of}
use Rattle.ufs_model.specs.FileCalls.{IsFileIn}
use Rattle.ufs_model.specs.History.{IsLegal, tree_after}
use Rattle.ufs_model.specs.PosixTree.{IsTree, PosixTree}
use Rattle.ufs_model.specs.declared.data.Desc.{Desc}
use Rattle.ufs_model.specs.declared.data.Entry.{Entry}
use Rattle.ufs_model.specs.declared.data.Op.{Op}
use Rattle.ufs_model.specs.declared.data.Reply.{Reply}
use Rattle.ufs_crash_laws.specs.Changes.{changes_of}
use Rattle.ufs_crash_laws.specs.FileChanges.{all_changed}
use Rattle.ufs_store.specs.Ledgers.{HasLedger, MayCommitNext, after_commit, stages, with_room}
use Rattle.ufs_store.specs.State.{StoreState, next_commit}
use Rattle.ufs_file_commits.specs.Serving.{IsServedKept}
use Rattle.ufs_file_commits.specs.Standing.{StandsFor}
use Rattle.ufs_file_commits.specs.State.{DurableState, IsNoted, file_committed}
use Rattle.ufs_file_commits.specs.Writes.{BlockWrite, at_moments, with_writes, writes_of}

-- ---- a file

-- An inode has room for the file, and the file has the blocks for its bytes. Each `FileHand` is so.
pub record FitsInode (f : FileState) : Type 0 where
  pub few : length f.extents ≤ MAX_EXTENTS
  pub runs : All IsRun f.extents
  pub room : length f.content.bytes ≤ BLOCK * length (blocks_of f.extents)
  pub size : length f.content.bytes < 2 ^ 64

-- Each of its blocks is the one that its inode has on the disk at the same place, or one that nobody has there.
abbrev pub HasOwnBlocks : Ledger → DurableState → Type 0
HasOwnBlocks l f = (place block : ℕ) → slice_get (blocks_of f.file.extents) place ≡ Some block
    → (slice_get (blocks_of f.log.committed.runs) place ≡ Some block) ⊎ (IsTakenBlock (geometry_of l.superblock) l.now.catalog block → ⊥)

-- By this history it has its bytes after all its changes, of which no more are on the disk than there are; there it has its inode
-- for itself.
pub record IsFileBy (f : FileState) (start : PosixTree) (history : List Entry) (k : Counts) : Type 0 where
  pub there : k.numbers.inode f.file ≡ Some f.inode
  pub alone : (other : ℕ) → k.numbers.inode other ≡ Some f.inode → other ≡ f.file
  pub counted : k.files f.file ≤ length (changes_of f.file start history)
  pub bytes : f.content.bytes ≡ all_changed (bytes_of start.bytes f.file) (changes_of f.file start history)

-- the counts once all its changes are on the disk
abbrev pub all_shown : FileState → PosixTree → List Entry → Counts → Counts
all_shown f start history k = record k { files = raised k.files f.file (length (changes_of f.file start history)) }

-- the ledger behind the writes of a file and the commit of what changed of it
abbrev pub once_committed : StoreState → Moments → List LogRecord → DurableState → Ledger → Ledger
once_committed s between records f l = after_commit (at_moments between s) records (with_writes (writes_of f.file) l)

-- A store with this ledger has these records to commit: they are what changed of a file that stands there, with blocks of its own.
pub record HasToCommit (s : StoreState) (records : List LogRecord) (l : Ledger) (f : DurableState) : Type 0 where
  pub has : HasLedger s l
  pub noted : IsNoted f
  pub stands : StandsFor l f
  pub own : HasOwnBlocks l f
  pub fits : FitsInode f.file
  pub delta : IsDelta f.log.inode f.log.committed f.log.noted records

-- ---- laws

-- They may be committed next, whatever was written before.
abbrev pub FilesMayCommitNext : Type 0
FilesMayCommitNext = (s : StoreState) (records : List LogRecord) (l : Ledger) (f : DurableState) (ws : List BlockWrite) → HasToCommit s records l f → MayCommitNext s records (with_writes ws l)

-- The ledger is kept behind each write of the file, in turn.
abbrev pub WritesAreKept : Type 0
WritesAreKept = (s : StoreState) (l : Ledger) (f : DurableState) (before behind : List BlockWrite) (start : PosixTree) (history : List Entry) (now maybe : Counts) → HasLedger s l → IsNoted f → StandsFor l f → HasOwnBlocks l f
    → IsFileBy f.file start history now → writes_of f.file ≡ before ++ behind → IsLedgerKept l start history now maybe → IsLedgerKept (with_writes before l) start history now maybe

-- The commit behind them shows all its changes. Between the writes and the commit the disk is at other moments; where the journal
-- lacks room, a checkpoint comes first.
abbrev pub CommitsShowAll : Type 0
CommitsShowAll = (s : StoreState) (between : Moments) (records : List LogRecord) (l : Ledger) (f : DurableState) (start : PosixTree) (history : List Entry) (now maybe : Counts) → HasToCommit s records l f → IsFileBy f.file start history now
    → IsLedgerKept l start history now maybe
    → GoesOnBy (geometry_of l.superblock) (with_room (at_moments between s) records (with_writes (writes_of f.file) l)) (next_commit s records) start history now (all_shown f.file start history now)

-- So the ledger is kept: each that the disk may have while they are committed,
abbrev pub StagesAreKept : Type 0
StagesAreKept = (s : StoreState) (between : Moments) (records : List LogRecord) (l : Ledger) (f : DurableState) (start : PosixTree) (history : List Entry) (now : Counts) → HasToCommit s records l f → IsFileBy f.file start history now
    → IsTree start → IsLegal start history → IsLedgerKept l start history now now
    → AllByRecursion (λ (m : Ledger). (maybe : Counts) × IsLedgerKept m start history now maybe) (stages (at_moments between s) records (with_writes (writes_of f.file) l))

-- and the one behind the commit, by the counts in which all its changes are shown.
abbrev pub DoneIsKept : Type 0
DoneIsKept = (s : StoreState) (between : Moments) (records : List LogRecord) (l : Ledger) (f : DurableState) (start : PosixTree) (history : List Entry) (now : Counts) → HasToCommit s records l f → IsFileBy f.file start history now
    → IsTree start → IsLegal start history → IsLedgerKept l start history now now
    → IsLedgerKept (once_committed s between records f l) start history (all_shown f.file start history now) (all_shown f.file start history now)

-- Where nothing but bytes changed, the barrier behind its writes shows all its changes.
abbrev pub BarriersShowAll : Type 0
BarriersShowAll = (s : StoreState) (l : Ledger) (f : DurableState) (start : PosixTree) (history : List Entry) (now : Counts) → HasLedger s l → IsNoted f → StandsFor l f → HasOwnBlocks l f → IsFileBy f.file start history now
    → f.log.noted ≡ f.log.committed → IsTree start → IsLegal start history → IsLedgerKept l start history now now
    → IsLedgerKept (settled (with_writes (writes_of f.file) l)) start history (all_shown f.file start history now) (all_shown f.file start history now)

-- Behind the commit its blocks are its own, on whichever ledger.
abbrev pub OwnsCommitted : Type 0
OwnsCommitted = (l : Ledger) (f : DurableState) → IsNoted f → HasOwnBlocks l (file_committed f)

-- So they are behind a request, where nobody has a block of the pool on the disk.
abbrev pub OwnsServed : Type 0
OwnsServed = (l : Ledger) (f g : DurableState) (before after : BlockSet) (d : Desc) (request : Op) (reply : Reply) (desc : Option Desc) → HasOwnBlocks l f
    → ((block : ℕ) → set.contains before block ≡ true → IsTakenBlock (geometry_of l.superblock) l.now.catalog block → ⊥) → IsServedKept f g before after d request reply desc → HasOwnBlocks l g

-- Each file is by these counts what it was by the ones before.
abbrev pub CountsGoOn : Type 0
CountsGoOn = (f h : FileState) (start : PosixTree) (history : List Entry) (now : Counts) → IsFileBy h start history now → IsFileBy h start history (all_shown f start history now)

-- So is a file that is this part of the history's tree behind one more entry,
abbrev pub GoesByEntries : Type 0
GoesByEntries = (f g : FileState) (start : PosixTree) (history : List Entry) (entry : Entry) (k : Counts) → IsTree start → IsLegal start (history ++ entry ∷ []) → g.file ≡ f.file → g.inode ≡ f.inode
    → IsFileIn (tree_after start (history ++ entry ∷ [])) g.file g.content.bytes → IsFileBy f start history k → IsFileBy g start (history ++ entry ∷ []) k

-- since the bytes that it has in the tree are those after all its changes.
abbrev pub HasTreeBytes : Type 0
HasTreeBytes = (f : FileState) (start : PosixTree) (history : List Entry) → IsTree start → IsLegal start history → IsFileIn (tree_after start history) f.file f.content.bytes → f.content.bytes ≡ all_changed (bytes_of start.bytes f.file) (changes_of f.file start history)

-- How a server on a disk goes on by the commit of a file.
use Rattle.std.specs.Prelude.{◌≡◌, ◌≢◌, ℕ, ◌⊎◌, Bool, List, ◌∷◌, Some, None, IsSome, All}
use Rattle.std.specs.FinMap as map
use Rattle.std.specs.FinSet as set
use Rattle.ufs_bitmap.specs.Blocks.{BlockSet}
use Rattle.ufs_bitmap.specs.Space.{Space}
use Rattle.ufs_bitmap.specs.Taking.{set_of}
use Rattle.ufs_disk.specs.Moments.{LeavesOnly, Moments}
use Rattle.ufs_extent.specs.Runs.{IsRun, blocks_of}
use Rattle.ufs_file.specs.Hand.{FileState}
use Rattle.ufs_files.specs.Files.{AreNumbered}
use Rattle.ufs_ilog.specs.Deltas.{IsDelta}
use Rattle.ufs_layout.specs.Areas.{first_of_data}
use Rattle.ufs_layout.specs.declared.geometry.Geometry.{Geometry}
use Rattle.ufs_layout.specs.declared.records.LogRecord.{LogRecord}
use Rattle.ufs_ledger.specs.Changes.{settled}
use Rattle.ufs_ledger.specs.Ledger.{IsLedgerOf, IsLeftBy, Ledger}
use Rattle.ufs_model.specs.PosixTree.{PosixTree}
use Rattle.ufs_model.specs.declared.data.Entry.{Entry}
use Rattle.ufs_file_commits.specs.Committing.{FitsInode}
use Rattle.ufs_file_commits.specs.Stamping.{MayLeaveSynced}
use Rattle.ufs_file_commits.specs.State.{DurableState, file_committed}
use Rattle.ufs_file_commits.specs.Writes.{AreDataBlocks, HasCommitted, HasTriedOne, MayWriteAll, at_moments, with_writes, writes_of}
use Rattle.ufs_store.specs.Blocks.{MayReturn}
use Rattle.ufs_store.specs.Ledgers.{HasAny, HasLedger, IsLeftByAny, MayCommitNext, checkpointed, stages}
use Rattle.ufs_store.specs.State.{StoreState, geometry_of_store}
use Rattle.ufs_promise_laws.specs.OnDisk.{HasFiles, HasNames, HasStopped, IsExplainedBetween, IsExplainedImage, IsGoing, IsOnDisk}
use Rattle.ufs_promise_laws.specs.Parts.{Commits, Parts, durable_in, with_file}
use Rattle.ufs_promise_laws.specs.Sound.{IsSoundServer}

-- ---- what `fsync` tells of a store

-- What changed of the file is committed, or it was committed and its bytes are settled. What it dropped is unassigned.
pub record HasSynced (old new : StoreState) (f : DurableState) : Type 0 where
  pub changed : (records : List LogRecord) → IsDelta f.log.inode f.log.committed f.log.noted records → f.log.noted ≢ f.log.committed → (l : Ledger) → HasLedger old l → MayWriteAll l (writes_of f.file) → MayCommitNext old records l
      → HasCommitted old new records (with_writes (writes_of f.file) l)
  pub same : f.log.noted ≡ f.log.committed → (l : Ledger) → HasLedger old l → MayWriteAll l (writes_of f.file) → HasLedger new (settled (with_writes (writes_of f.file) l))
  pub freed : new.unassigned.free ≡ set.union old.unassigned.free (set_of f.dropped)
  pub geometry : geometry_of_store new ≡ geometry_of_store old

-- Memory ran out before the commit: the file's blocks are written, and maybe a checkpoint is made.
pub record HasWritten (old new : StoreState) (f : DurableState) : Type 0 where
  pub written : (l : Ledger) → HasLedger old l → MayWriteAll l (writes_of f.file)
      → HasLedger new (with_writes (writes_of f.file) l) ⊎ ((between : Moments) × HasLedger new (checkpointed (at_moments between old) (with_writes (writes_of f.file) l)))
  pub unfreed : new.unassigned ≡ old.unassigned
  pub geometry : geometry_of_store new ≡ geometry_of_store old

-- The disk failed, and the store has stopped: the disk is at one of the stages of the writes and the commit.
pub record HasFailed (old new : StoreState) (f : DurableState) : Type 0 where
  pub stopped : IsSome new.stop
  pub changed : (records : List LogRecord) → IsDelta f.log.inode f.log.committed f.log.noted records → f.log.noted ≢ f.log.committed → (l : Ledger) → HasLedger old l → MayWriteAll l (writes_of f.file) → MayCommitNext old records l
      → HasTriedOne new (writes_of f.file) l ⊎ ((between : Moments) × HasAny new (stages (at_moments between old) records (with_writes (writes_of f.file) l)))
  pub same : f.log.noted ≡ f.log.committed → (l : Ledger) → HasLedger old l → MayWriteAll l (writes_of f.file)
      → HasTriedOne new (writes_of f.file) l ⊎ IsLedgerOf new.sectors new.moments.state (with_writes (writes_of f.file) l)
  pub sectors : new.sectors ≡ old.sectors
  pub geometry : geometry_of_store new ≡ geometry_of_store old

-- At each moment a crash leaves what one of the stages of the writes and the commit has.
pub record LeavesStages (keeps : Bool) (old new : StoreState) (f : DurableState) : Type 0 where
  pub changed : (records : List LogRecord) → IsDelta f.log.inode f.log.committed f.log.noted records → f.log.noted ≢ f.log.committed → (l : Ledger) → HasLedger old l → MayWriteAll l (writes_of f.file) → MayCommitNext old records l
      → (between : Moments) × LeavesOnly keeps (IsLeftByAny old.sectors (stages (at_moments between old) records (with_writes (writes_of f.file) l))) old.moments new.moments
  pub same : f.log.noted ≡ f.log.committed → (l : Ledger) → HasLedger old l → MayWriteAll l (writes_of f.file) → LeavesOnly keeps (IsLeftBy old.sectors (with_writes (writes_of f.file) l)) old.moments new.moments

-- ---- what `fsync` asks

-- What is unassigned is of the data area.
pub record IsSpaceOf (g : Geometry) (s : Space) : Type 0 where
  pub first : s.first ≡ first_of_data g
  pub blocks : s.blocks ≡ g.blocks

-- The file's blocks are of the data area, and what it dropped may be unassigned.
pub record MaySync (s : StoreState) (f : DurableState) : Type 0 where
  pub blocks : AreDataBlocks (geometry_of_store s) (blocks_of f.file.extents)
  pub dropped : MayReturn s.unassigned f.dropped

-- ---- laws

-- A file here may be synced.
abbrev pub SyncsMayBegin : Type 0
SyncsMayBegin = (s : StoreState) (p : Parts) (f : FileState) → IsSpaceOf (geometry_of_store s) s.unassigned → map.get p.files f.file ≡ Some f → All IsRun (durable_in p.commits f).dropped
    → IsSoundServer (geometry_of_store s) s.unassigned.free p → MaySync s (durable_in p.commits f)

-- Of a live file all changes stand on the disk once it is synced, beside those of the files that were synced before.
abbrev pub FileSyncsGoOn : Type 0
FileSyncsGoOn = (old new : StoreState) (start : PosixTree) (history : List Entry) (p : Parts) (f : FileState) (done : List ℕ) → map.get p.files f.file ≡ Some f → IsSome (map.get p.names.held f.file) → FitsInode f
    → HasSynced old new (durable_in p.commits f) → HasFiles old start history p done → HasFiles new start history (with_file (file_committed (durable_in p.commits f)) p.pool p) (f.file ∷ done)

abbrev pub SoundByFileSyncs : Type 0
SoundByFileSyncs = (g : Geometry) (unassigned : BlockSet) (p : Parts) (f : FileState) → AreNumbered p.files → map.get p.files f.file ≡ Some f
    → IsSoundServer g unassigned p → IsSoundServer g (set.union unassigned (set_of (durable_in p.commits f).dropped)) (with_file (file_committed (durable_in p.commits f)) p.pool p)

-- Where the disk fails the server stops with its parts as they were,
abbrev pub FailedSyncsGoOn : Type 0
FailedSyncsGoOn = (old new : StoreState) (start : PosixTree) (history : List Entry) (p : Parts) (f : FileState) → map.get p.files f.file ≡ Some f → IsSome (map.get p.names.held f.file) → FitsInode f
    → HasFailed old new (durable_in p.commits f) → HasNames old start history p → HasStopped new start history p

-- and where memory runs out it goes on with them.
abbrev pub WrittenSyncsGoOn : Geometry → Type 0
WrittenSyncsGoOn g = (old new : StoreState) (start : PosixTree) (history : List Entry) (p : Parts) (f : FileState) → geometry_of_store old ≡ g → map.get p.files f.file ≡ Some f → IsSome (map.get p.names.held f.file)
    → HasWritten old new (durable_in p.commits f) → HasNames old start history p → IsGoing new start history p

-- While a file is committed a crash leaves only what the history explains,
abbrev pub FileSyncsMayLeave : Geometry → Type 0
FileSyncsMayLeave g = (s : StoreState) (start : PosixTree) (history : List Entry) (p : Parts) (f : FileState) → geometry_of_store s ≡ g → map.get p.files f.file ≡ Some f → IsSome (map.get p.names.held f.file)
    → FitsInode f → HasNames s start history p → MayLeaveSynced (IsExplainedImage s.sectors start history) s (durable_in p.commits f)

-- so at each moment of the commit.
abbrev pub FileSyncsAreExplained : Geometry → Type 0
FileSyncsAreExplained g = (keeps : Bool) (old new : StoreState) (start : PosixTree) (history : List Entry) (p : Parts) (f : FileState) → geometry_of_store old ≡ g → map.get p.files f.file ≡ Some f → IsSome (map.get p.names.held f.file)
    → FitsInode f → LeavesStages keeps old new (durable_in p.commits f) → HasNames old start history p → IsExplainedBetween keeps old.sectors start history old.moments new.moments

-- ---- the same told in other words

-- This tells the same of the commits of each file here, and nothing of others.
pub record TellsTheSame (p : Parts) (commits : Commits) : Type 0 where
  pub each : (file : ℕ) (f : FileState) → map.get p.files file ≡ Some f → durable_in commits f ≡ durable_in p.commits f
  pub known : (file : ℕ) → map.get p.files file ≡ None → map.get commits file ≡ None

abbrev pub OnDiskAsTold : Type 0
OnDiskAsTold = (s : StoreState) (start : PosixTree) (history : List Entry) (p : Parts) (commits : Commits) → TellsTheSame p commits → IsOnDisk s start history p → IsOnDisk s start history (record p { commits = commits })

abbrev pub SyncedAsTold : Type 0
SyncedAsTold = (s : StoreState) (start : PosixTree) (history : List Entry) (p : Parts) (commits : Commits) (done : List ℕ) → TellsTheSame p commits → HasFiles s start history p done → HasFiles s start history (record p { commits = commits }) done

abbrev pub SoundAsTold : Type 0
SoundAsTold = (g : Geometry) (unassigned : BlockSet) (p : Parts) (commits : Commits) → TellsTheSame p commits → IsSoundServer g unassigned p → IsSoundServer g unassigned (record p { commits = commits })

-- So it is where nothing more is known of a file that was just committed,
abbrev pub CommittedIsForgotten : Type 0
CommittedIsForgotten = (g : Geometry) (unassigned : BlockSet) (p : Parts) (f : FileState) → AreNumbered p.files → map.get p.files f.file ≡ Some f → IsSoundServer g unassigned p
    → TellsTheSame (with_file (file_committed (durable_in p.commits f)) p.pool p) (map.remove (with_file (file_committed (durable_in p.commits f)) p.pool p).commits f.file)

-- and where a file is put back as it was.
abbrev pub PutBackAsItWas : Type 0
PutBackAsItWas = (g : Geometry) (unassigned : BlockSet) (p : Parts) (f : FileState) → AreNumbered p.files → map.get p.files f.file ≡ Some f → IsSoundServer g unassigned p
    → (with_file (durable_in p.commits f) p.pool p ≡ record p { commits = (with_file (durable_in p.commits f) p.pool p).commits }) × TellsTheSame p (with_file (durable_in p.commits f) p.pool p).commits

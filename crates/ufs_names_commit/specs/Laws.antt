-- How a server's names come to the disk.
use Rattle.std.specs.Prelude.{ℕ, ◌≡◌, ◌⊎◌, Bool, List, [], ◌∷◌, ◌++◌, IsSome, length, true, Some, None}
use Rattle.std.specs.FinMap as map
use Rattle.std.specs.FinSet as set
use Rattle.ufs_bitmap.specs.Blocks.{BlockSet}
use Rattle.ufs_bitmap.specs.Taking.{has}
use Rattle.ufs_disk.specs.Disk.{IsWhole}
use Rattle.ufs_disk.specs.Moments.{LeavesOnly, Moments}
use Rattle.ufs_layout.specs.declared.geometry.Geometry.{Geometry}
use Rattle.ufs_layout.specs.declared.records.LogRecord.{LogRecord}
use Rattle.ufs_ledger.specs.Changes.{settled, tried, written}
use Rattle.ufs_ledger.specs.Laws.{MayWrite}
use Rattle.ufs_ledger.specs.Ledger.{IsLedgerOf, IsLeftBy, Ledger}
use Rattle.ufs_model.specs.PosixTree.{PosixTree}
use Rattle.ufs_model.specs.declared.data.Entry.{Entry}
use Rattle.ufs_name_tree.specs.NameTable.{IsNameTable}
use Rattle.ufs_store.specs.Ledgers.{HasAny, HasLedger, IsLeftByAny, MayCommitNext, after_commit, beginning_next, checkpointed, stages}
use Rattle.ufs_store.specs.Stamping.{MayLeaveHome, MayLeaveStages, MayLeaveWritten}
use Rattle.ufs_store.specs.State.{StoreState, geometry_of_store}
use Rattle.ufs_crash_laws.specs.Changes.{name_changes}
use Rattle.ufs_promise_laws.specs.Known.{IsKeptGoing, IsKeptStopped, Known, with_names_known}
use Rattle.ufs_promise_laws.specs.Laws.{with_names_committed}
use Rattle.ufs_promise_laws.specs.OnDisk.{HasAll, HasFiles, HasStopped, IsExplainedBetween, IsExplainedImage, IsGoing}
use Rattle.ufs_file_commits.specs.State.{DurableState, blocks_held}
use Rattle.ufs_extent.specs.Runs.{blocks_of}
use Rattle.ufs_file.specs.Hand.{FileState}
use Rattle.ufs_promise_laws.specs.Parts.{Parts, durable_in}
use Rattle.ufs_promise_laws.specs.Sound.{IsSoundServer}
use Rattle.ufs_promise_laws.specs.Stored.{ArePartsOf}
use Rattle.ufs_names_commit.specs.Ready.{HasSpelled, HasZeros, zeros}

-- The second state has the first one's form and free blocks.
pub record IsBeside (g : Geometry) (old new : StoreState) : Type 0 where
  pub old_form : geometry_of_store old ≡ g
  pub new_form : geometry_of_store new ≡ g
  pub unassigned : new.unassigned ≡ old.unassigned

-- ---- blocks that directories took

-- Each of them may be written.
abbrev pub ZerosBegin : Type 0
ZerosBegin = (s : StoreState) (start : PosixTree) (history : List Entry) (p : Parts) (known : Known) → IsKeptGoing s start history p known → HasZeros s start history p known []

-- One gets zeros.
abbrev pub ZerosGoOn : Geometry → Type 0
ZerosGoOn g = (old new : StoreState) (start : PosixTree) (history : List Entry) (p : Parts) (known : Known) (done : List ℕ) (block : ℕ) → IsBeside g old new → has p.fresh block ≡ true
    → ((l : Ledger) → HasLedger old l → MayWrite l block zeros → HasLedger new (written block zeros l)) → HasZeros old start history p known done → HasZeros new start history p known (done ++ block ∷ [])

-- That failed.
abbrev pub ZerosStop : Geometry → Type 0
ZerosStop g = (old new : StoreState) (start : PosixTree) (history : List Entry) (p : Parts) (known : Known) (done : List ℕ) (block : ℕ) (seen : List ℕ) → IsBeside g old new → has p.fresh block ≡ true → IsSome new.stop
    → ((l : Ledger) → HasLedger old l → MayWrite l block zeros → IsLedgerOf new.sectors new.moments.state (tried block zeros seen l)) → HasZeros old start history p known done → IsKeptStopped new start history p known

-- Once all of them read as zeros a barrier makes them ready.
abbrev pub ZerosSettle : Geometry → Type 0
ZerosSettle g = (old new : StoreState) (start : PosixTree) (history : List Entry) (p : Parts) (known : Known) → IsBeside g old new → IsWhole new.sectors new.moments.state
    → ((l : Ledger) → HasLedger old l → HasLedger new (settled l)) → HasZeros old start history p known p.fresh → HasSpelled new start history p known

-- That failed.
abbrev pub BarriersFail : Geometry → Type 0
BarriersFail g = (old new : StoreState) (start : PosixTree) (history : List Entry) (p : Parts) (known : Known) (done : List ℕ) → IsBeside g old new → IsSome new.stop
    → ((l : Ledger) → HasLedger old l → IsLedgerOf new.sectors new.moments.state l) → HasZeros old start history p known done → IsKeptStopped new start history p known

-- While zeros are written a crash leaves only what the history explains,
abbrev pub ZerosMayLeave : Geometry → Type 0
ZerosMayLeave g = (s : StoreState) (start : PosixTree) (history : List Entry) (p : Parts) (known : Known) (done : List ℕ) (block : ℕ) → geometry_of_store s ≡ g → has p.fresh block ≡ true
    → HasZeros s start history p known done → MayLeaveWritten (IsExplainedImage s.sectors start history) s block zeros

-- so at each moment of the write,
abbrev pub ZerosAreExplained : Geometry → Type 0
ZerosAreExplained g = (keeps : Bool) (s : StoreState) (new : Moments) (start : PosixTree) (history : List Entry) (p : Parts) (known : Known) (done : List ℕ) (block : ℕ) → geometry_of_store s ≡ g → has p.fresh block ≡ true
    → ((l : Ledger) → HasLedger s l → MayWrite l block zeros → LeavesOnly keeps (IsLeftBy s.sectors (written block zeros l)) s.moments new) → HasZeros s start history p known done → IsExplainedBetween keeps s.sectors start history s.moments new

-- at each moment of the barrier behind them,
abbrev pub BarriersAreExplained : Geometry → Type 0
BarriersAreExplained g = (keeps : Bool) (s : StoreState) (new : Moments) (start : PosixTree) (history : List Entry) (p : Parts) (known : Known) (done : List ℕ) → geometry_of_store s ≡ g
    → ((l : Ledger) → HasLedger s l → LeavesOnly keeps (IsLeftBy s.sectors l) s.moments new) → HasZeros s start history p known done → IsExplainedBetween keeps s.sectors start history s.moments new

-- and where no call is made.
abbrev pub ZerosStay : Geometry → Type 0
ZerosStay g = (keeps : Bool) (s : StoreState) (start : PosixTree) (history : List Entry) (p : Parts) (known : Known) (done : List ℕ) → geometry_of_store s ≡ g → HasZeros s start history p known done → IsExplainedBetween keeps s.sectors start history s.moments s.moments

-- ---- the commit

-- The names are committed: all their changes are known, and the birth of each live file.
abbrev pub NamesCommit : Geometry → Type 0
NamesCommit g = (old new : StoreState) (start : PosixTree) (history : List Entry) (p : Parts) (known : Known) (records : List LogRecord) → IsBeside g old new → p.names.tree.noted ≡ Some records → IsNameTable p.names.tree
    → ((l : Ledger) → HasLedger old l → MayCommitNext old records l → HasLedger new (after_commit old records l)) → HasSpelled old start history p known → IsKeptGoing new start history (with_names_committed p) (with_names_known p.names (length (name_changes start history)) known)

-- The disk failed meanwhile.
abbrev pub NamesStop : Geometry → Type 0
NamesStop g = (old new : StoreState) (start : PosixTree) (history : List Entry) (p : Parts) (known : Known) (records : List LogRecord) → IsBeside g old new → p.names.tree.noted ≡ Some records → IsNameTable p.names.tree → IsSome new.stop
    → ((l : Ledger) → HasLedger old l → MayCommitNext old records l → HasAny new (stages old records l)) → HasSpelled old start history p known → IsKeptStopped new start history p known

-- Memory was wanting, at most after a checkpoint.
abbrev pub NamesWait : Geometry → Type 0
NamesWait g = (old new : StoreState) (start : PosixTree) (history : List Entry) (p : Parts) (known : Known) → IsBeside g old new
    → ((l : Ledger) → HasLedger old l → HasLedger new l ⊎ HasLedger new (checkpointed old l)) → HasSpelled old start history p known → IsKeptGoing new start history p known

-- While they are committed a crash leaves only what the history explains,
abbrev pub NamesMayLeave : Geometry → Type 0
NamesMayLeave g = (s : StoreState) (start : PosixTree) (history : List Entry) (p : Parts) (known : Known) (records : List LogRecord) → geometry_of_store s ≡ g → p.names.tree.noted ≡ Some records → IsNameTable p.names.tree
    → HasSpelled s start history p known → MayLeaveStages (IsExplainedImage s.sectors start history) s records

-- so at each moment of the commit.
abbrev pub NamesAreExplained : Geometry → Type 0
NamesAreExplained g = (keeps : Bool) (s : StoreState) (new : Moments) (start : PosixTree) (history : List Entry) (p : Parts) (known : Known) (records : List LogRecord) → geometry_of_store s ≡ g → p.names.tree.noted ≡ Some records → IsNameTable p.names.tree
    → ((l : Ledger) → HasLedger s l → MayCommitNext s records l → LeavesOnly keeps (IsLeftByAny s.sectors (stages s records l)) s.moments new) → HasSpelled s start history p known → IsExplainedBetween keeps s.sectors start history s.moments new

-- Where all changes of each live file stand there too, everything does: no other file has changes that a path shows.
abbrev pub AllAreThere : Geometry → Type 0
AllAreThere g = (s : StoreState) (start : PosixTree) (history : List Entry) (p : Parts) (done : List ℕ) → geometry_of_store s ≡ g → ((file : ℕ) → IsSome (map.get p.names.held file) → has done file ≡ true)
    → HasFiles s start history p done → HasAll s start history p

-- Where nothing is noted all changes of names stand on the disk.
abbrev pub NamesAreThere : Geometry → Type 0
NamesAreThere g = (s : StoreState) (start : PosixTree) (history : List Entry) (p : Parts) (known : Known) → geometry_of_store s ≡ g → p.names.tree.noted ≡ Some [] → IsNameTable p.names.tree → IsKeptGoing s start history p known → IsKeptGoing s start history (with_names_committed p) (with_names_known p.names (length (name_changes start history)) known)

-- ---- what is dropped

-- Nothing of the names is noted, no block is fresh, and each live file is committed as it is.
pub record HasNothingNoted (p : Parts) : Type 0 where
  pub names : p.names.tree.noted ≡ Some []
  pub fresh : p.fresh ≡ []
  pub files : (file : ℕ) → IsSome (map.get p.names.held file) → map.get p.commits file ≡ None

-- The file has still each block that it has on the disk: among its own, or among those that it dropped since its last commit.
abbrev pub KeepsItsBlocks : DurableState → Type 0
KeepsItsBlocks f = (block : ℕ) → has (blocks_of f.log.committed.runs) block ≡ true → has (blocks_held f) block ≡ true

-- Nothing of the names is noted, no block is fresh, and each file keeps its blocks, as all do but those that the names emptied since
-- their last commit.
pub record HasNothingTaken (p : Parts) : Type 0 where
  pub names : p.names.tree.noted ≡ Some []
  pub fresh : p.fresh ≡ []
  pub files : (file : ℕ) (s : FileState) → map.get p.files file ≡ Some s → KeepsItsBlocks (durable_in p.commits s)

-- the parts once what is dropped is the pool's
abbrev pub with_reclaimed : Parts → Parts
with_reclaimed p = record p { pool = set.union p.pool p.dropped; dropped = set.empty }

-- Then a checkpoint brings back all that is dropped: no inode on the disk has such a block, and no dentry is folded there.
abbrev pub DroppedIsReclaimed : Geometry → Type 0
DroppedIsReclaimed g = (old new : StoreState) (start : PosixTree) (history : List Entry) (p : Parts) → IsBeside g old new → HasNothingNoted p → IsSoundServer g old.unassigned.free p
    → ((l : Ledger) → HasLedger old l → HasLedger new (checkpointed old l)) → IsGoing old start history p → IsGoing new start history (with_reclaimed p)

-- So it does with what is known, also where not every file is committed.
abbrev pub DroppedIsReclaimedKept : Geometry → Type 0
DroppedIsReclaimedKept g = (old new : StoreState) (start : PosixTree) (history : List Entry) (p : Parts) (known : Known) → IsBeside g old new → HasNothingTaken p → IsSoundServer g old.unassigned.free p
    → ((l : Ledger) → HasLedger old l → HasLedger new (checkpointed old l)) → IsKeptGoing old start history p known → IsKeptGoing new start history (with_reclaimed p) known

-- While it is made a crash leaves only what the history explains.
abbrev pub CheckpointsMayLeave : Geometry → Type 0
CheckpointsMayLeave g = (s : StoreState) (start : PosixTree) (history : List Entry) (p : Parts) → geometry_of_store s ≡ g → IsGoing s start history p → MayLeaveHome (IsExplainedImage s.sectors start history) s

-- The disk failed in the checkpoint.
abbrev pub CheckpointsFail : Geometry → Type 0
CheckpointsFail g = (old new : StoreState) (start : PosixTree) (history : List Entry) (p : Parts) → IsBeside g old new → IsSome new.stop
    → ((l : Ledger) → HasLedger old l → HasAny new (l ∷ beginning_next old l ∷ [])) → IsGoing old start history p → HasStopped new start history p

-- Nothing that is known falls then.
abbrev pub CheckpointsFailKept : Geometry → Type 0
CheckpointsFailKept g = (old new : StoreState) (start : PosixTree) (history : List Entry) (p : Parts) (known : Known) → IsBeside g old new → IsSome new.stop
    → ((l : Ledger) → HasLedger old l → HasAny new (l ∷ beginning_next old l ∷ [])) → IsKeptGoing old start history p known → IsKeptStopped new start history p known

-- The parts are sound, and of the same tree.
abbrev pub ReclaimedIsSound : Type 0
ReclaimedIsSound = (g : Geometry) (unassigned : BlockSet) (p : Parts) → p.fresh ≡ [] → IsSoundServer g unassigned p → IsSoundServer g unassigned (with_reclaimed p)

abbrev pub ReclaimedIsPart : Type 0
ReclaimedIsPart = (p : Parts) (t : PosixTree) → ArePartsOf p t → ArePartsOf (with_reclaimed p) t

-- A turn of the store for one file, by whatever history and parts the disk was kept as the turn began: what is known of the file
-- rises where its commit passes, and nothing that is known falls.
use Rattle.std.specs.Prelude.{◌≡◌, Bool, IsTrue, List, length, Some, true}
use Rattle.std.specs.FinMap as map
use Rattle.ufs_file.specs.Hand.{FileState}
use Rattle.ufs_layout.specs.declared.geometry.Geometry.{Geometry}
use Rattle.ufs_model.specs.PosixTree.{PosixTree}
use Rattle.ufs_model.specs.declared.data.Entry.{Entry}
use Rattle.ufs_crash_laws.specs.Changes.{changes_of}
use Rattle.ufs_file_commits.specs.Committing.{FitsInode}
use Rattle.ufs_file_commits.specs.Stamping.{MayLeaveSynced}
use Rattle.ufs_file_commits.specs.State.{file_committed}
use Rattle.ufs_promise_laws.specs.Fetches.{IsFetched, with_read}
use Rattle.ufs_promise_laws.specs.Syncs.{HasFailed, HasSynced, HasWritten, LeavesStages}
use Rattle.ufs_store.specs.State.{StoreState, geometry_of_store}
use Rattle.ufs_promise_laws.specs.OnDisk.{IsExplainedBetween, IsExplainedImage}
use Rattle.ufs_promise_laws.specs.Parts.{Parts, durable_in, with_file}
use Rattle.ufs_promise_laws.specs.Known.{IsDiskKept, IsKeptGoing, IsKeptStopped, Known, with_file_known}

-- A file is here whose birth is known.
pub record IsBornHere (p : Parts) (known : Known) (f : FileState) : Type 0 where
  pub here : map.get p.files f.file ≡ Some f
  pub born : known.born f.file ≡ true

-- ---- a fetch

abbrev pub FetchesStayKept : Type 0
FetchesStayKept = (visible keeps : Bool) (old new : StoreState) (start : PosixTree) (history : List Entry) (p : Parts) (known : Known) (f g : FileState) → IsTrue visible → map.get p.files f.file ≡ Some f → IsFetched visible keeps old new f g
    → IsDiskKept old start history p known → IsDiskKept new start history (with_read f g p) known

-- ---- a commit

-- All changes of the file are known behind it.
abbrev pub FilesAreKnown : Type 0
FilesAreKnown = (old new : StoreState) (start : PosixTree) (history : List Entry) (p : Parts) (known : Known) (f : FileState) → IsBornHere p known f → FitsInode f → HasSynced old new (durable_in p.commits f)
    → IsKeptGoing old start history p known
    → IsKeptGoing new start history (with_file (file_committed (durable_in p.commits f)) p.pool p) (with_file_known f.file (length (changes_of f.file start history)) known)

-- Where the disk fails nothing that is known falls,
abbrev pub FailedFilesStayKept : Type 0
FailedFilesStayKept = (old new : StoreState) (start : PosixTree) (history : List Entry) (p : Parts) (known : Known) (f : FileState) → IsBornHere p known f → FitsInode f → HasFailed old new (durable_in p.commits f)
    → IsKeptGoing old start history p known → IsKeptStopped new start history p known

-- nor where memory runs out.
abbrev pub WrittenFilesStayKept : Geometry → Type 0
WrittenFilesStayKept g = (old new : StoreState) (start : PosixTree) (history : List Entry) (p : Parts) (known : Known) (f : FileState) → geometry_of_store old ≡ g → IsBornHere p known f → HasWritten old new (durable_in p.commits f)
    → IsKeptGoing old start history p known → IsKeptGoing new start history p known

-- While it is committed a crash leaves only what the history explains,
abbrev pub FilesMayLeave : Geometry → Type 0
FilesMayLeave g = (s : StoreState) (start : PosixTree) (history : List Entry) (p : Parts) (known : Known) (f : FileState) → geometry_of_store s ≡ g → IsBornHere p known f → FitsInode f
    → IsKeptGoing s start history p known → MayLeaveSynced (IsExplainedImage s.sectors start history) s (durable_in p.commits f)

-- so at each moment of the commit.
abbrev pub FilesAreExplained : Geometry → Type 0
FilesAreExplained g = (keeps : Bool) (old new : StoreState) (start : PosixTree) (history : List Entry) (p : Parts) (known : Known) (f : FileState) → geometry_of_store old ≡ g → IsBornHere p known f → FitsInode f
    → LeavesStages keeps old new (durable_in p.commits f) → IsKeptGoing old start history p known → IsExplainedBetween keeps old.sectors start history old.moments new.moments

-- How a server on a disk goes on where blocks of one of its files are read from it.
use Rattle.std.specs.Prelude.{◌≡◌, Bool, IsTrue, List, Some, ℕ}
use Rattle.std.specs.FinMap as map
use Rattle.ufs_bitmap.specs.Blocks.{BlockSet}
use Rattle.ufs_disk.specs.Moments.{LeavesOnly}
use Rattle.ufs_file.specs.Content.{IsContentOf}
use Rattle.ufs_file.specs.Hand.{FileState, whole_as}
use Rattle.ufs_files.specs.Files.{AreNumbered}
use Rattle.ufs_layout.specs.declared.geometry.Geometry.{Geometry}
use Rattle.ufs_ledger.specs.Ledger.{IsLedgerOf, IsLeftBy, Ledger}
use Rattle.ufs_model.specs.FileBytes.{bytes_of}
use Rattle.ufs_model.specs.History.{tree_after}
use Rattle.ufs_model.specs.PosixTree.{PosixTree}
use Rattle.ufs_model.specs.declared.data.Entry.{Entry}
use Rattle.ufs_file_commits.specs.Fetching.{IsReadOn}
use Rattle.ufs_file_commits.specs.Standing.{IsReadable}
use Rattle.ufs_file_commits.specs.State.{CommitState, IsNoted, state_of}
use Rattle.ufs_store.specs.Ledgers.{HasLedger}
use Rattle.ufs_store.specs.State.{StoreState, geometry_of_store}
use Rattle.ufs_promise_laws.specs.OnDisk.{IsExplainedBetween, IsOnDisk}
use Rattle.ufs_promise_laws.specs.Parts.{Parts, durable_in, with_file}
use Rattle.ufs_promise_laws.specs.Sound.{IsSoundServer}
use Rattle.ufs_promise_laws.specs.Stored.{ArePartsOf}

-- The log notes the file as it noted the one before.
abbrev pub IsNotedOn : FileState → FileState → Type 0
IsNotedOn f g = (c : CommitState) → IsNoted (state_of f c) → IsNoted (state_of g c)

-- What `fetch` of `ufs_file_commits` tells: some blocks of the file were read, and stay in memory; the store has done nothing else.
pub record IsFetched (visible keeps : Bool) (s t : StoreState) (f g : FileState) : Type 0 where
  pub rest : IsReadOn f g
  pub noted : IsNotedOn f g
  pub read : IsTrue visible → (l : Ledger) (bytes : List ℕ) → IsLedgerOf s.sectors s.moments.state l → IsReadable l (whole_as bytes f) → IsContentOf f.content bytes → IsContentOf g.content bytes
  pub crash : IsTrue visible → (l : Ledger) → IsLedgerOf s.sectors s.moments.state l → LeavesOnly keeps (IsLeftBy s.sectors l) s.moments t.moments
  pub on_disk : IsTrue visible → (l : Ledger) → IsLedgerOf s.sectors s.moments.state l → IsLedgerOf t.sectors t.moments.state l
  pub ledger : IsTrue visible → (l : Ledger) → HasLedger s l → HasLedger t l
  pub store : t ≡ record s { moments = t.moments; faults = t.faults }

-- the parts with that file, of whose commits the same is known
abbrev pub with_read : FileState → FileState → Parts → Parts
with_read f g p = with_file (record (durable_in p.commits f) { file = g }) p.pool p

-- ---- laws

-- Over a visible disk what was read is what the tree has for the file, also once the store has stopped.
abbrev pub FetchesReadTheTree : Type 0
FetchesReadTheTree = (visible keeps : Bool) (old new : StoreState) (start : PosixTree) (history : List Entry) (p : Parts) (f g : FileState) → IsTrue visible → map.get p.files f.file ≡ Some f → IsFetched visible keeps old new f g
    → IsOnDisk old start history p → IsContentOf g.content (bytes_of (tree_after start history).bytes f.file)

-- So the server is on the disk with it,
abbrev pub FetchesGoOn : Type 0
FetchesGoOn = (visible keeps : Bool) (old new : StoreState) (start : PosixTree) (history : List Entry) (p : Parts) (f g : FileState) → IsTrue visible → map.get p.files f.file ≡ Some f → IsFetched visible keeps old new f g
    → IsOnDisk old start history p → IsOnDisk new start history (with_read f g p)

-- and meanwhile the history explains whatever a crash leaves.
abbrev pub FetchesAreExplained : Geometry → Type 0
FetchesAreExplained geometry = (visible keeps : Bool) (old new : StoreState) (start : PosixTree) (history : List Entry) (p : Parts) (f g : FileState) → geometry_of_store old ≡ geometry → IsTrue visible → IsFetched visible keeps old new f g
    → IsOnDisk old start history p → IsExplainedBetween keeps old.sectors start history old.moments new.moments

-- With what was read the file may be that of a tree that has it.
abbrev pub PartsByFetches : Type 0
PartsByFetches = (t : PosixTree) (p : Parts) (f g : FileState) → map.get p.files f.file ≡ Some f → IsReadOn f g → IsContentOf g.content (bytes_of t.bytes f.file) → ArePartsOf p t → ArePartsOf (with_read f g p) t

abbrev pub SoundByFetches : Type 0
SoundByFetches = (geometry : Geometry) (unassigned : BlockSet) (p : Parts) (f g : FileState) → AreNumbered p.files → map.get p.files f.file ≡ Some f → IsReadOn f g → IsNotedOn f g
    → IsSoundServer geometry unassigned p → IsSoundServer geometry unassigned (with_read f g p)

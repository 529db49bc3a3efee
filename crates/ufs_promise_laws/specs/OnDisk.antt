-- When a server's disk keeps its promise, also once its store has stopped.
use Rattle.std.specs.Prelude.{ℕ, ◌≡◌, ◌≤◌, ◌⊎◌, Bool, List, IsSome, Some, length, true}
use Rattle.std.specs.FinMap as map
use Rattle.ufs_base.specs.Images.{Image}
use Rattle.ufs_bitmap.specs.Taking.{has}
use Rattle.ufs_disk.specs.Disk.{Leaves}
use Rattle.ufs_disk.specs.Moments.{LeavesOnly, Moments}
use Rattle.ufs_file_commits.specs.Standing.{IsReadable}
use Rattle.ufs_file.specs.Hand.{FileState, whole_as}
use Rattle.ufs_image.specs.Proper.{IsProperImage}
use Rattle.ufs_layout.specs.Superblock.{geometry_of}
use Rattle.ufs_ledger.specs.Kept.{Counts, IsLedgerKept, OpensExplained}
use Rattle.ufs_ledger.specs.Ledger.{IsLedgerOf, Ledger}
use Rattle.ufs_model.specs.FileBytes.{bytes_of}
use Rattle.ufs_model.specs.History.{IsLegal, tree_after}
use Rattle.ufs_model.specs.PosixTree.{IsTree, PosixTree}
use Rattle.ufs_model.specs.declared.data.Entry.{Entry}
use Rattle.ufs_crash_laws.specs.Changes.{changes_of, name_changes}
use Rattle.ufs_store.specs.Ledgers.{HasLedger}
use Rattle.ufs_store.specs.State.{StoreState, geometry_of_store}
use Rattle.ufs_promise_laws.specs.Parts.{Parts}
use Rattle.ufs_promise_laws.specs.Stored.{ArePartsOf, IsStored}

-- The store goes on, and knows a ledger of its disk on which the server is stored.
pub record IsGoing (s : StoreState) (start : PosixTree) (history : List Entry) (p : Parts) : Type 0 where
  pub ledger : Ledger
  pub counts : Counts
  pub has : HasLedger s ledger
  pub formed : geometry_of ledger.superblock ≡ geometry_of_store s
  pub stored : IsStored ledger s.unassigned.free start history counts p

-- Each block of a file here that isn't dirty has the bytes that the tree has for the file, whatever a crash leaves, and a read
-- gives them.
abbrev pub AreReadable : Ledger → PosixTree → Parts → Type 0
AreReadable l t p = (file : ℕ) (f : FileState) → map.get p.files file ≡ Some f → IsReadable l (whole_as (bytes_of t.bytes file) f)

-- The store has stopped. The history explains whatever a crash leaves of the disk, and the parts are those of the tree after it.
pub record HasStopped (s : StoreState) (start : PosixTree) (history : List Entry) (p : Parts) : Type 0 where
  pub stopped : IsSome s.stop
  pub ledger : Ledger
  pub now : Counts
  pub maybe : Counts
  pub has : IsLedgerOf s.sectors s.moments.state ledger
  pub formed : geometry_of ledger.superblock ≡ geometry_of_store s
  pub tree : IsTree start
  pub legal : IsLegal start history
  pub kept : IsLedgerKept ledger start history now maybe
  pub parts : ArePartsOf p (tree_after start history)
  -- reads go on: what isn't dirty is still on the disk
  pub clean : AreReadable ledger (tree_after start history) p

-- It has stopped by these counts. What may stand on the disk beside them is by the same, or by the next ones.
pub record HasStoppedBy (s : StoreState) (start : PosixTree) (history : List Entry) (p : Parts) (counts next : Counts) : Type 0 where
  pub stopped : HasStopped s start history p
  pub now : stopped.now ≡ counts
  pub maybe : (stopped.maybe ≡ counts) ⊎ (stopped.maybe ≡ next)

abbrev pub IsOnDisk : StoreState → PosixTree → List Entry → Parts → Type 0
IsOnDisk s start history p = IsGoing s start history p ⊎ HasStopped s start history p

-- The history explains whatever a crash leaves of the disk as it is.
abbrev pub IsExplainedBy : StoreState → PosixTree → List Entry → Type 0
IsExplainedBy s start history = Leaves (OpensExplained s.sectors start history) s.moments.state

-- It opens to a tree that the history explains, and is proper.
pub record IsExplainedImage (sectors : ℕ) (start : PosixTree) (history : List Entry) (image : Image) : Type 0 where
  pub explained : OpensExplained sectors start history image
  pub proper : IsProperImage sectors image

-- At each moment from the one to the other the history explains whatever a crash leaves.
abbrev pub IsExplainedBetween : Bool → ℕ → PosixTree → List Entry → Moments → Moments → Type 0
IsExplainedBetween keeps sectors start history old new = LeavesOnly keeps (IsExplainedImage sectors start history) old new

-- ---- what stands on the disk for good

-- All changes of names do, and each live file has an inode there.
pub record HasNames (s : StoreState) (start : PosixTree) (history : List Entry) (p : Parts) : Type 0 where
  pub going : IsGoing s start history p
  pub names : length (name_changes start history) ≤ going.counts.names
  pub numbered : (file : ℕ) → IsSome (map.get p.names.held file) → IsSome (going.counts.numbers.inode file)

-- So do all changes of these files.
pub record HasFiles (s : StoreState) (start : PosixTree) (history : List Entry) (p : Parts) (done : List ℕ) : Type 0 where
  pub names : HasNames s start history p
  pub files : (file : ℕ) → has done file ≡ true → length (changes_of file start history) ≤ names.going.counts.files file

-- All changes of the file do, and it has an inode there.
pub record HasFile (s : StoreState) (start : PosixTree) (history : List Entry) (p : Parts) (file : ℕ) : Type 0 where
  pub going : IsGoing s start history p
  pub there : IsSome (going.counts.numbers.inode file)
  pub changes : length (changes_of file start history) ≤ going.counts.files file

-- Everything does.
pub record HasAll (s : StoreState) (start : PosixTree) (history : List Entry) (p : Parts) : Type 0 where
  pub going : IsGoing s start history p
  pub names : length (name_changes start history) ≤ going.counts.names
  pub files : (file : ℕ) → length (changes_of file start history) ≤ going.counts.files file

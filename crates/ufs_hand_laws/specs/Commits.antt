-- How a disk goes on showing the history while the store writes blocks, and commits files and names: by the trees to which
-- its images open before and after.
use Rattle.std.specs.Prelude.{ℕ, ◌≡◌, ◌≢◌, ◌≤◌, ◌<◌, ◌⊎◌, leb, Bool, true, false, List, [], length, Option, Some, None, Ok}
use Rattle.std.specs.FinMap as map
use Rattle.ufs_disk.specs.Disk.{IsImage}
use Rattle.ufs_base.specs.Images.{Image}
use Rattle.ufs_image.specs.Opens.{ImageTree, opens}
use Rattle.ufs_model.specs.PosixTree.{PosixTree, Paths, IsTree}
use Rattle.ufs_model.specs.FileBytes.{bytes_of}
use Rattle.ufs_model.specs.History.{IsLegal}
use Rattle.ufs_model.specs.Start.{PathNodes}
use Rattle.ufs_model.specs.declared.data.Entry.{Entry}
use Rattle.ufs_model.specs.declared.data.Node.TheVariants.{File}
use Rattle.ufs_model.specs.declared.data.PathNode.TheVariants as path_node
use Rattle.ufs_crash_laws.specs.FileChanges.{all_changed, byte_at}
use Rattle.ufs_crash_laws.specs.Changes.{changes_of, name_changes, names_after}
use Rattle.ufs_crash_laws.specs.Explained.{IsTreeWith}
use Rattle.ufs_hand_laws.specs.Covers.{IsBornBy}
use Rattle.ufs_hand_laws.specs.Parts.{Cells}
use Rattle.ufs_hand_laws.specs.DiskBytes.{state_of}
use Rattle.ufs_hand_laws.specs.Shown.{nodes_of, OpensTo, ShowsImages}

-- Each image of the new state comes from one of the old state: where that one opens to a tree, it opens to a tree that
-- stands so to it.
abbrev pub TreesGo : (PathNodes → PathNodes → Type 0) → Cells → Cells → Type 0
TreesGo Goes old new = (image : Image) → IsImage (state_of new) image → (other : Image) × IsImage (state_of old) other
    × ((before : ImageTree) → opens (length old) other ≡ Ok before → OpensTo (Goes (nodes_of before)) (length new) image)

-- the file's bytes now
abbrev pub bytes_now : PosixTree → List Entry → ℕ → List ℕ
bytes_now start history file = all_changed (bytes_of start.bytes file) (changes_of file start history)

-- ---- blocks of files are written, and no inode

-- The file is as long as it was, and shows at each place what it showed or what it has now.
pub record IsWrittenBack (before after now : List ℕ) : Type 0 where
  pub size : length after ≡ length before
  pub each : (place : ℕ) → place < length after → (byte_at after place ≡ byte_at before place) ⊎ (byte_at after place ≡ byte_at now place)

pub record IsFileWrittenBack (start : PosixTree) (history : List Entry) (paths : Paths) (before after : PathNodes) (path : List ℕ) : Type 0 where
  pub file : ℕ
  pub named : map.get paths path ≡ Some (File file)
  pub old : List ℕ
  pub was : map.get before path ≡ Some (path_node.File old)
  pub new : List ℕ
  pub is : map.get after path ≡ Some (path_node.File new)
  pub back : IsWrittenBack old new (bytes_now start history file)

abbrev pub AreFilesWrittenBack : PosixTree → List Entry → Paths → PathNodes → PathNodes → Type 0
AreFilesWrittenBack start history paths before after = (path : List ℕ) → (map.get after path ≡ map.get before path) ⊎ IsFileWrittenBack start history paths before after path

abbrev pub BlockWritesShow : Type 0
BlockWritesShow = (start : PosixTree) (history : List Entry) (files : ℕ → ℕ) (names : ℕ) (paths : Paths) (old new : Cells) → TreesGo (AreFilesWrittenBack start history paths) old new
    → ShowsImages start history files names (Some paths) old → ShowsImages start history files names (Some paths) new

-- ---- a file is committed

-- At the file's paths stand these bytes, and elsewhere what stood there.
pub record IsFileCommitted (paths : Paths) (file : ℕ) (bytes : List ℕ) (before after : PathNodes) : Type 0 where
  pub here : (path : List ℕ) → map.get paths path ≡ Some (File file) → map.get after path ≡ Some (path_node.File bytes)
  pub elsewhere : (path : List ℕ) → (map.get paths path ≡ Some (File file) → ⊥) → map.get after path ≡ map.get before path

-- the numbers after all changes of the file are committed
pub record IsOneMore (files more : ℕ → ℕ) (file count : ℕ) : Type 0 where
  pub own : more file ≡ count
  pub others : (other : ℕ) → other ≢ file → more other ≡ files other

abbrev pub FileCommitsShow : Type 0
FileCommitsShow = (start : PosixTree) (history : List Entry) (files more : ℕ → ℕ) (names : ℕ) (paths : Paths) (old new : Cells) (file : ℕ) → IsOneMore files more file (length (changes_of file start history))
    → TreesGo (IsFileCommitted paths file (bytes_now start history file)) old new → ShowsImages start history files names (Some paths) old → ShowsImages start history more names (Some paths) new

-- ---- names are committed

-- A file has the bytes that it had at some path before; or it is new on the disk, with no bytes.
pub record IsKeptFile (old : Paths) (before : PathNodes) (file : ℕ) (bytes : List ℕ) : Type 0 where
  pub path : List ℕ
  pub named : map.get old path ≡ Some (File file)
  pub there : map.get before path ≡ Some (path_node.File bytes)

abbrev pub IsCommittedFile : (ℕ → Bool) → Paths → PathNodes → ℕ → List ℕ → Type 0
IsCommittedFile fresh old before file bytes = ((fresh file ≡ false) × IsKeptFile old before file bytes) ⊎ ((fresh file ≡ true) × (bytes ≡ []))

abbrev pub AreNamesCommitted : (ℕ → Bool) → Paths → Paths → PathNodes → PathNodes → Type 0
AreNamesCommitted fresh old new before after = IsTreeWith (IsCommittedFile fresh old before) new after

-- of a new file no change is committed, and it wasn't there at the opening
abbrev pub AreFresh : (ℕ → Bool) → PosixTree → (ℕ → ℕ) → Type 0
AreFresh fresh start files = (file : ℕ) → fresh file ≡ true → (files file ≡ 0) × (bytes_of start.bytes file ≡ [])

abbrev pub NameCommitsShow : Type 0
NameCommitsShow = (start : PosixTree) (history : List Entry) (files : ℕ → ℕ) (names : ℕ) (fresh : ℕ → Bool) (paths : Paths) (old new : Cells) → AreFresh fresh start files
    → names ≤ length (name_changes start history)
    → TreesGo (AreNamesCommitted fresh paths (names_after start history (length (name_changes start history))).paths) old new → ShowsImages start history files names (Some paths) old
    → ShowsImages start history files (length (name_changes start history)) (Some (names_after start history (length (name_changes start history))).paths) new

-- So are the files that the committed names haven't born, where none of them has a committed change.
abbrev pub is_unborn : PosixTree → List Entry → ℕ → ℕ → Bool
is_unborn start history names file = leb (names_after start history names).next file

abbrev pub UnbornAreFresh : Type 0
UnbornAreFresh = (start : PosixTree) (history : List Entry) (files : ℕ → ℕ) (names : ℕ) → IsTree start → IsLegal start history → names ≤ length (name_changes start history)
    → ((file : ℕ) → 1 ≤ files file → IsBornBy start history file names) → AreFresh (is_unborn start history names) start files

-- ---- on the way

-- Fewer changes are shown too, with whatever names.
abbrev pub FewerShow : Type 0
FewerShow = (start : PosixTree) (history : List Entry) (files more : ℕ → ℕ) (names last : ℕ) (paths : Option Paths) (cells : Cells) → ((file : ℕ) → files file ≤ more file) → names ≤ last
    → ShowsImages start history more last paths cells → ShowsImages start history files names None cells

-- Each image of the state comes from one of the old state: it opens as that one does, or where that one opens to a tree, to a
-- tree that stands so to it.
abbrev pub TreesMayGo : (PathNodes → PathNodes → Type 0) → Cells → Cells → Type 0
TreesMayGo Goes old cells = (image : Image) → IsImage (state_of cells) image → (other : Image) × IsImage (state_of old) other
    × ((opens (length cells) image ≡ opens (length old) other) ⊎ ((before : ImageTree) → opens (length old) other ≡ Ok before → OpensTo (Goes (nodes_of before)) (length cells) image))

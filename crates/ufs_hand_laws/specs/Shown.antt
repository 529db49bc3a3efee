-- What a disk shows: each image that a crash may leave opens to a tree, and the history explains it.
use Rattle.std.specs.Prelude.{ℕ, ◌≡◌, ◌≤◌, List, [], length, Option, Some, None, Ok}
use Rattle.ufs_disk.specs.Disk.{IsImage, Leaves}
use Rattle.ufs_base.specs.Images.{Image}
use Rattle.ufs_image.specs.Opens.{NodeBytes, ImageTree, opens}
use Rattle.ufs_model.specs.PosixTree.{PosixTree, Paths, IsTree}
use Rattle.ufs_model.specs.Start.{PathNodes, HasContents}
use Rattle.ufs_model.specs.declared.data.Entry.{Entry}
use Rattle.ufs_model.specs.declared.data.PathNode.{PathNode}
use Rattle.ufs_model.specs.declared.data.PathNode.TheVariants.{Dir, File}
use Rattle.ufs_crash_laws.specs.Changes.{names_after}
use Rattle.ufs_crash_laws.specs.Mapped.{mapped}
use Rattle.ufs_crash_laws.specs.Explained.{IsShownBy, IsExplained}
use Rattle.ufs_hand_laws.specs.Parts.{Cells}
use Rattle.ufs_hand_laws.specs.DiskBytes.{state_of}

-- ---- images that open

abbrev pub node_of : NodeBytes → PathNode
node_of None = Dir
node_of (Some bytes) = File bytes

-- an image's tree, as whole paths with directories and files
abbrev pub nodes_of : ImageTree → PathNodes
nodes_of tree = mapped node_of tree

-- An image of so many sectors opens to a tree that has P.
abbrev pub OpensTo : (PathNodes → Type 0) → ℕ → Image → Type 0
OpensTo P sectors image = (tree : ImageTree) × (opens sectors image ≡ Ok tree) × P (nodes_of tree)

-- So does each image that a crash may leave.
abbrev pub EachOpensTo : (PathNodes → Type 0) → Cells → Type 0
EachOpensTo P cells = Leaves (OpensTo P (length cells)) (state_of cells)

-- ---- what they show

-- The tree shows at least so many changes of each file, and of names.
pub record ShowsAtLeast (start : PosixTree) (history : List Entry) (files : ℕ → ℕ) (names : ℕ) (paths : Option Paths) (tree : PathNodes) : Type 0 where
  pub shown_names : ℕ
  pub shown_files : ℕ → ℕ
  pub most_names : names ≤ shown_names
  pub most_files : (file : ℕ) → files file ≤ shown_files file
  pub shown : IsShownBy start history shown_names shown_files tree
  -- these are the names that it shows, where they are told
  pub placed : (p : Paths) → paths ≡ Some p → (names_after start history shown_names).paths ≡ p

abbrev pub ShowsImages : PosixTree → List Entry → (ℕ → ℕ) → ℕ → Option Paths → Cells → Type 0
ShowsImages start history files names paths cells = EachOpensTo (ShowsAtLeast start history files names paths) cells

abbrev pub ExplainsImages : PosixTree → List Entry → Cells → Type 0
ExplainsImages start history cells = EachOpensTo (λ tree. IsExplained tree start history) cells

-- ---- what is shown without a history

-- A disk whose images open to the opening tree shows it, with no change.
abbrev pub OpeningsShow : Type 0
OpeningsShow = (start : PosixTree) (files : ℕ → ℕ) (cells : Cells) → IsTree start → ((file : ℕ) → files file ≡ 0) → EachOpensTo (HasContents start) cells → ShowsImages start [] files 0 (Some start.paths) cells

-- each image of the new state opens as one of the old state does
abbrev pub OpensAs : Cells → Cells → Type 0
OpensAs old new = (image : Image) → IsImage (state_of new) image → (other : Image) × IsImage (state_of old) other × (opens (length new) image ≡ opens (length old) other)

-- It shows what the old one shows.
abbrev pub SameTreesShow : Type 0
SameTreesShow = (start : PosixTree) (history : List Entry) (files : ℕ → ℕ) (names : ℕ) (paths : Option Paths) (old new : Cells) → OpensAs old new → ShowsImages start history files names paths old → ShowsImages start history files names paths new

-- What a session begins with, by the disk that it is given.
use Rattle.std.specs.Prelude.{ℕ, ◌≡◌, Bool, true, false, Ok, None}
use Rattle.std.specs.FinMap as map
use Rattle.ufs_base.specs.Images as images
use Rattle.ufs_image.specs.Opens.{ImageTree, opens}
use Rattle.ufs_model.specs.PosixTree.{PosixTree}
use Rattle.ufs_promise_laws.specs.Starts.{image_start}
use Rattle.ufs_opening.specs.Told.{TellsWhy}
use Rattle.ufs_start.specs.declared.fault.StartFault.{StartFault}
use Rattle.ufs_start.specs.declared.fault.StartFault.TheVariants.{Image, Unreached, Unnamed, ExtraBlocks}

-- The image stands for a tree, and this is that tree with its files numbered and nothing open.
pub record BeginsWith (sectors : ℕ) (image : images.Image) (start : PosixTree) : Type 0 where
  pub tree : ImageTree
  pub opened : opens sectors image ≡ Ok tree
  pub start_is : start ≡ image_start tree

-- No client has a descriptor in the tree.
abbrev pub HasNothingOpen : PosixTree → Type 0
HasNothingOpen start = (client fd : ℕ) → map.get start.fds (client, fd) ≡ None

-- A server that can't begin with an image for this can with what a recovery leaves of it.
abbrev pub is_mended : StartFault → Bool
is_mended (Image fault) = false
is_mended (Unreached inode) = true
is_mended (Unnamed inode) = true
is_mended (ExtraBlocks inode) = true

-- Why no session begins with this image: it stands for no tree, or the device or memory fails. It is never for what a recovery
-- mends: that no path names a file or a directory, or that a file has more blocks than its size wants.
abbrev pub TellsNoSession : ℕ → images.Image → StartFault → Type 0
TellsNoSession sectors image (Image fault) = TellsWhy sectors image fault
TellsNoSession sectors image (Unreached inode) = ⊥
TellsNoSession sectors image (Unnamed inode) = ⊥
TellsNoSession sectors image (ExtraBlocks inode) = ⊥

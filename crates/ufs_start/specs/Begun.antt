-- What a server begins with on a disk.
use Rattle.std.specs.Prelude.{ℕ, ◌≡◌, ◌≤◌, ◌^◌, length, true, Result, Ok, Err, Some, IsSome}
use Rattle.std.specs.FinMap as map
use Rattle.std.specs.FinSet as set
use Rattle.ufs_base.specs.Images.{Image}
use Rattle.ufs_metadata.specs.declared.superblock.ImageSuperblock.{ImageSuperblock}
use Rattle.ufs_dir_tree.specs.DirTable.{IsReached}
use Rattle.ufs_files.specs.Files.{AreFilesOf}
use Rattle.ufs_image.specs.Catalog.{Catalog, IsInode, catalog_at}
use Rattle.ufs_image.specs.Fold.{folded}
use Rattle.ufs_image.specs.Journal.{committed}
use Rattle.ufs_image.specs.Opens.{ImageTree, opens, root_tree}
use Rattle.ufs_image.specs.Standing.{IsVolumeOf}
use Rattle.ufs_image.specs.Volume.{Refusal, Volume}
use Rattle.ufs_layout.specs.Areas.{first_of_data, is_data_sector}
use Rattle.ufs_ledger.specs.Kept.{paths_of}
use Rattle.ufs_load_image.specs.Loaded.{is_free_block}
use Rattle.ufs_name_tree.specs.NameTable.{file_at}
use Rattle.ufs_names.specs.Calls.{HaveInodes}
use Rattle.ufs_names.specs.NamesPart.{IsNamesPart}
use Rattle.ufs_names.specs.Space.{AreApart}
use Rattle.ufs_promise_laws.specs.Loaded.{AreRead}
use Rattle.ufs_promise_laws.specs.TreeParts.{IsNamesOf}
use Rattle.ufs_promise_laws.specs.Starts.{image_start}
use Rattle.ufs_one_hand.specs.OneHand.{IsStart, start_with}
use Rattle.ufs_hand_laws.specs.Parts as sound
use Rattle.ufs_start.specs.Files.{AreLaid, AreUnread}
use Rattle.ufs_start.specs.Starts.{tree_in}
use Rattle.ufs_start.specs.declared.parts.Start.{Start}

-- the disk's image under this superblock, as its committed transactions leave it
abbrev pub image_under : ImageSuperblock → Image → Image
image_under h disk = folded h.geometry (committed h.geometry h.superblock.epoch disk) disk

abbrev pub volume_under : ImageSuperblock → Image → Volume
volume_under h disk = record { superblock = h.superblock; geometry = h.geometry; image = image_under h disk }

abbrev pub catalog_under : ImageSuperblock → Image → Catalog
catalog_under h disk = catalog_at h.geometry (image_under h disk)

abbrev pub tree_under : ImageSuperblock → Image → ImageTree
tree_under h disk = tree_in h.geometry (image_under h disk)

-- the tree that an image opens to, or the root alone where it opens to none
abbrev pub tree_or : Result ImageTree Refusal → ImageTree
tree_or (Ok tree) = tree
tree_or (Err refusal) = root_tree

-- what a session over the image starts from
abbrev pub session_start : ℕ → Image → sound.Start
session_start sectors image = start_with (paths_of (tree_or (opens sectors image)))

-- A server begins so on a disk of so many sectors.
pub record IsBegun (sectors : ℕ) (disk : Image) (s : Start) : Type 0 where
  pub standing : IsVolumeOf sectors disk (volume_under s.superblock disk) (catalog_under s.superblock disk)
  pub sized : (sector : ℕ) → is_data_sector s.superblock.geometry sector ≡ true → length (image_under s.superblock disk sector) ≡ 512
  pub opened : opens sectors disk ≡ Ok (tree_under s.superblock disk)
  pub table : IsNamesOf s.superblock.geometry (catalog_under s.superblock disk) (image_start (tree_under s.superblock disk)) s.names
  pub names : IsNamesPart s.names (image_start (tree_under s.superblock disk))
  -- each directory that has a name is met
  pub reached : IsReached s.names.tree.dirs
  -- each file is one that the names tell
  pub named : (inode : ℕ) → IsInode s.superblock.geometry inode → ((catalog_under s.superblock disk).forms inode).kind ≡ 1 → IsSome (file_at s.names.tree inode)
  pub few : s.names.next ≤ 2 ^ 30
  pub read : AreRead (image_under s.superblock disk) (catalog_under s.superblock disk) s.names s.files
  pub files : AreFilesOf s.files (image_start (tree_under s.superblock disk))
  pub inodes : HaveInodes s.names.held s.files
  pub here : (inode file : ℕ) → file_at s.names.tree inode ≡ Some file → IsSome (map.get s.files file)
  pub unread : AreUnread (catalog_under s.superblock disk) s.files
  pub laid : AreLaid (catalog_under s.superblock disk) s.files
  pub first : s.free.first ≡ first_of_data s.superblock.geometry
  pub blocks : s.free.blocks ≡ s.superblock.geometry.blocks
  pub free : (block : ℕ) → set.contains s.free.free block ≡ is_free_block s.superblock.geometry (image_under s.superblock disk) block
  pub apart : AreApart s.names.tree.dirs s.files s.free.free
  -- the session starts from the tree of the image
  pub session : s.parts.start ≡ start_with (paths_of (tree_under s.superblock disk))
  pub can : IsStart s.parts.start

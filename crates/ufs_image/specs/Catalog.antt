-- What a folded image says of its inodes and directories, without bytes.
use Rattle.std.specs.Prelude.{ℕ, ◌≡◌, ◌≤◌, ◌==◌, List, [], map, flat_map, if◌then◌else◌, length, Bool, IsTrue, Some, unwrap_or}
use Rattle.std.specs.List.{slice_get}
use Rattle.ufs_base.specs.declared.sizes.TheConstants.{SLOTS_PER_BLOCK}
use Rattle.ufs_layout.specs.InodeForm.{InodeForm}
use Rattle.ufs_layout.specs.DentryForm.{DentryForm, free_slot}
use Rattle.ufs_base.specs.Images.{Image}
use Rattle.ufs_image.specs.Images.{inode_at, form_at}
use Rattle.ufs_image.specs.Nodes.{blocks_of, read_block}
use Rattle.ufs_layout.specs.declared.geometry.Geometry.{Geometry}

-- each inode's form, and the dentries in the slots of each block of a directory
pub record Catalog : Type 0 where
  pub forms : ℕ → InodeForm
  pub slots : ℕ → List DentryForm

pub record IsInode (g : Geometry) (inode : ℕ) : Type 0 where
  pub from_one : 1 ≤ inode
  pub within : inode ≤ g.inodes

-- The inode has this block at this place.
pub record HasBlock (g : Geometry) (c : Catalog) (inode place block : ℕ) : Type 0 where
  pub in_range : IsInode g inode
  pub there : slice_get (blocks_of (c.forms inode)) place ≡ Some block

-- the slots of an inode, those of its first block first; a file has none
abbrev pub slots_in : Catalog → ℕ → List DentryForm
slots_in c inode = if (c.forms inode).kind == 2 then flat_map c.slots (blocks_of (c.forms inode)) else []

-- A directory has the block.
pub record IsDirBlock (g : Geometry) (c : Catalog) (block : ℕ) : Type 0 where
  pub inode : ℕ
  pub place : ℕ
  pub has : HasBlock g c inode place block
  pub dir : (c.forms inode).kind ≡ 2

-- Among these blocks are all of directories.
abbrev pub HasDirBlocks : Geometry → Catalog → (ℕ → Bool) → Type 0
HasDirBlocks g c these = (block : ℕ) → IsDirBlock g c block → IsTrue (these block)

-- Each block of the inode has its slots.
abbrev pub HasSlots : Geometry → Catalog → ℕ → Type 0
HasSlots g c inode = (block place : ℕ) → HasBlock g c inode place block → length (c.slots block) ≡ SLOTS_PER_BLOCK

-- The image spells it: each inode's sector the inode's form, each slot of a directory's blocks its dentry.
pub record IsCatalogOf (g : Geometry) (image : Image) (c : Catalog) : Type 0 where
  pub forms : (inode : ℕ) → IsInode g inode → inode_at g image inode ≡ Some (c.forms inode)
  pub slots : (block : ℕ) → IsDirBlock g c block → read_block image block ≡ map Some (c.slots block)

-- what an image says; a slot that is off counts as free here
abbrev pub catalog_at : Geometry → Image → Catalog
catalog_at g image = record { forms = form_at g image; slots = λ block. map (λ o. unwrap_or o free_slot) (read_block image block) }

-- The bytes that are written for a catalog.
use Rattle.std.specs.Prelude.{ℕ, ◌≡◌, ◌<◌, ◌^◌, List, length, flat_map, IsTrue}
use Rattle.std.specs.List.{AllByRecursion}
use Rattle.ufs_base.specs.declared.sizes.TheConstants.{SECTOR, SLOTS_PER_BLOCK}
use Rattle.ufs_layout.specs.Areas.{sector_of_inode}
use Rattle.ufs_layout.specs.InodeForm.{inode_bytes}
use Rattle.ufs_layout.specs.DentryForm.{DentryForm, dentry_bytes, is_dentry}
use Rattle.ufs_base.specs.Images.{Image}
use Rattle.ufs_image.specs.Images.{block_at}
use Rattle.ufs_layout.specs.declared.geometry.Geometry.{Geometry}
use Rattle.ufs_image.specs.Catalog.{Catalog, IsInode, IsDirBlock}
use Rattle.ufs_image.specs.Agree.{IsOfBlock}
use Rattle.ufs_image.specs.Folding.{FitsForm}

-- A dentry that has a spelling, and is read back.
pub record FitsDentryForm (d : DentryForm) : Type 0 where
  pub spelled : IsTrue (is_dentry d)
  pub inode : d.inode < 2 ^ 32

-- The block has the bytes of these dentries.
pub record IsWrittenBlock (image : Image) (block : ℕ) (dentries : List DentryForm) : Type 0 where
  pub bytes : block_at image block ≡ flat_map dentry_bytes dentries
  pub counted : length dentries ≡ SLOTS_PER_BLOCK
  pub fit : AllByRecursion FitsDentryForm dentries
  pub sized : (sector : ℕ) → IsOfBlock block sector → length (image sector) ≡ SECTOR

-- Each inode's sector has the bytes of its form, and each block of a directory those of its dentries.
pub record IsWritten (g : Geometry) (image : Image) (c : Catalog) : Type 0 where
  pub inodes : (inode : ℕ) → IsInode g inode → image (sector_of_inode g inode) ≡ inode_bytes (c.forms inode)
  pub fit : (inode : ℕ) → IsInode g inode → FitsForm (c.forms inode)
  pub dirs : (block : ℕ) → IsDirBlock g c block → IsWrittenBlock image block (c.slots block)

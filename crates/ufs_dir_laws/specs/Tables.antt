-- The table of a catalog's directories.
use Rattle.std.specs.Prelude.{ℕ, ◌≡◌, ◌+◌, ◌==◌, ◌&&◌, not, List, [], Bool, length, if◌then◌else◌}
use Rattle.std.specs.FinSet as set
use Rattle.ufs_base.specs.Images.{Image}
use Rattle.ufs_layout.specs.Areas.{is_inode_number}
use Rattle.ufs_layout.specs.InodeForm.{is_used}
use Rattle.ufs_layout.specs.declared.geometry.Geometry.{Geometry}
use Rattle.ufs_image.specs.Nodes.{blocks_of}
use Rattle.ufs_image.specs.Catalog.{Catalog, IsInode, IsCatalogOf}
use Rattle.ufs_image.specs.Sound.{IsSoundCatalog}
use Rattle.ufs_dir_tree.specs.DirTable.{DirTable, IsDirTable, IsReached, no_dir, dir_at, blocks_at}
use Rattle.ufs_dir_laws.specs.Meets.{HasSlotsOf}

-- the blocks of a directory, in the order of its bytes; a file has none as one
abbrev pub dir_blocks : Catalog → ℕ → List ℕ
dir_blocks c inode = if (c.forms inode).kind == 2 then blocks_of (c.forms inode) else []

-- The inode is none of a file or a directory.
abbrev pub is_free_inode : Geometry → Catalog → ℕ → Bool
is_free_inode g c inode = not (is_used (c.forms inode)) && is_inode_number g inode

-- The table has each inode's slots and blocks, and just the unused inodes are free. There is no inode 0.
pub record IsTableOf (g : Geometry) (c : Catalog) (t : DirTable) : Type 0 where
  pub counted : length t.dirs ≡ g.inodes + 1
  pub none : dir_at t 0 ≡ no_dir
  pub slots : HasSlotsOf g c t
  pub blocks : (inode : ℕ) → IsInode g inode → blocks_at t inode ≡ dir_blocks c inode
  pub free : (inode : ℕ) → set.contains t.free inode ≡ is_free_inode g c inode

-- What is true of every table of directories is true of that of an image's sound catalog, where each directory with a
-- name is met: a catalog may have a directory that no walk reaches.
abbrev pub TablesAreDirTables : Geometry → Type 0
TablesAreDirTables g = (image : Image) (c : Catalog) (t : DirTable) → IsCatalogOf g image c → IsSoundCatalog g c → IsTableOf g c t → IsReached t → IsDirTable t

-- Each catalog has such a table.
abbrev pub CatalogsHaveTables : Geometry → Type 0
CatalogsHaveTables g = (c : Catalog) → (t : DirTable) × IsTableOf g c t

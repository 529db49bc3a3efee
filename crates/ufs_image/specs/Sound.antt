-- Which catalogs stand for a tree: those of which nothing is damaged.
use Rattle.std.specs.Prelude.{ℕ, ◌≡◌, ◌≢◌, ◌≤◌, ◌*◌, ◌+◌, true, length, Some, IsTrue}
use Rattle.std.specs.List.{slice_get, AllByRecursion}
use Rattle.ufs_base.specs.declared.sizes.TheConstants.{BLOCK}
use Rattle.ufs_layout.specs.Areas.{first_of_data}
use Rattle.ufs_layout.specs.DentryForm.{DentryForm, is_named}
use Rattle.ufs_image.specs.Nodes.{blocks_of}
use Rattle.ufs_image.specs.Damage.{is_plain_name}
use Rattle.ufs_layout.specs.declared.geometry.Geometry.{Geometry}
use Rattle.ufs_layout.specs.declared.inode.Extent.{Extent}
use Rattle.ufs_image.specs.Catalog.{Catalog, IsInode, HasBlock, slots_in}

-- A name stands at this place of the directory with this number.
pub record HasDentry (g : Geometry) (c : Catalog) (dir place : ℕ) (d : DentryForm) : Type 0 where
  pub in_range : IsInode g dir
  pub there : slice_get (slots_in c dir) place ≡ Some d
  pub named : is_named d ≡ true

-- The extent lies in the data area.
pub record IsInData (g : Geometry) (e : Extent) : Type 0 where
  pub start : first_of_data g ≤ e.start
  pub end : e.start + e.length ≤ g.blocks

-- A dentry that fits: its name may stand in a path, and its inode is a used one of its kind, and no root.
pub record FitsDentry (g : Geometry) (c : Catalog) (d : DentryForm) : Type 0 where
  pub plain : IsTrue (is_plain_name d.name)
  pub in_range : IsInode g d.inode
  pub kind : (c.forms d.inode).kind ≡ d.kind
  pub used : d.kind ≢ 0
  pub no_root : d.inode ≢ 1

pub record IsSoundCatalog (g : Geometry) (c : Catalog) : Type 0 where
  -- inode 1, the root, is a directory
  pub root : (c.forms 1).kind ≡ 2
  pub in_data : (inode : ℕ) → IsInode g inode → AllByRecursion (IsInData g) (c.forms inode).extents
  -- one place holds a block
  pub blocks_once : (i j p q block : ℕ) → HasBlock g c i p block → HasBlock g c j q block → (i ≡ j) × (p ≡ q)
  pub room : (inode : ℕ) → IsInode g inode → (c.forms inode).size ≤ BLOCK * length (blocks_of (c.forms inode))
  pub whole : (dir : ℕ) → IsInode g dir → (c.forms dir).kind ≡ 2 → (c.forms dir).size ≡ BLOCK * length (blocks_of (c.forms dir))
  pub fit : (dir place : ℕ) (d : DentryForm) → HasDentry g c dir place d → FitsDentry g c d
  -- a directory has a name once
  pub names_once : (dir p q : ℕ) (d e : DentryForm) → HasDentry g c dir p d → HasDentry g c dir q e → d.name ≡ e.name → p ≡ q
  -- one place names an inode
  pub inodes_once : (dir other p q : ℕ) (d e : DentryForm) → HasDentry g c dir p d → HasDentry g c other q e → d.inode ≡ e.inode → (dir ≡ other) × (p ≡ q)

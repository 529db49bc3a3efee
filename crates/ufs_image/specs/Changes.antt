-- Changes after which a catalog is still sound, and tells the same paths.
use Rattle.std.specs.Prelude.{ℕ, ◌≡◌, ◌≢◌, ◌≤◌, ◌<◌, ◌*◌, ◌⊎◌, List, [], length, Some}
use Rattle.std.specs.List.{slice_get, AllByRecursion}
use Rattle.ufs_base.specs.declared.sizes.TheConstants.{BLOCK}
use Rattle.ufs_layout.specs.Areas.{first_of_data}
use Rattle.ufs_layout.specs.InodeForm.{InodeForm}
use Rattle.ufs_layout.specs.DentryForm.{DentryForm}
use Rattle.ufs_image.specs.Nodes.{blocks_of}
use Rattle.ufs_layout.specs.declared.geometry.Geometry.{Geometry}
use Rattle.ufs_image.specs.Catalog.{Catalog, IsInode, HasBlock}
use Rattle.ufs_image.specs.Sound.{IsInData, HasDentry, IsSoundCatalog}
use Rattle.ufs_image.specs.Walks.{inode_of, SameWalks}

-- Some walk from the root meets it.
pub record IsReached (c : Catalog) (inode : ℕ) : Type 0 where
  pub names : List (List ℕ)
  pub met : inode_of c names ≡ Some inode

abbrev pub IsUnreached : Catalog → ℕ → Type 0
IsUnreached c inode = (names : List (List ℕ)) → inode_of c names ≢ Some inode

-- The new catalog is sound, and each walk meets what it met.
pub record KeepsWalks (g : Geometry) (c d : Catalog) : Type 0 where
  pub sound : IsSoundCatalog g d
  pub walks : SameWalks c d

-- a free inode, be its commit number what it may
pub record IsFree (form : InodeForm) : Type 0 where
  pub kind : form.kind ≡ 0
  pub extents : form.extents ≡ []
  pub size : form.size ≡ 0

-- A form that a file may get: in the data area, with room for its size, and with blocks that no other inode has.
pub record MayBecome (g : Geometry) (c : Catalog) (inode : ℕ) (form : InodeForm) : Type 0 where
  pub in_range : IsInode g inode
  pub was_file : (c.forms inode).kind ≡ 1
  pub file : form.kind ≡ 1
  pub in_data : AllByRecursion (IsInData g) form.extents
  pub room : form.size ≤ BLOCK * length (blocks_of form)
  pub once : (p q block : ℕ) → slice_get (blocks_of form) p ≡ Some block → slice_get (blocks_of form) q ≡ Some block → p ≡ q
  pub apart : (p j q block : ℕ) → slice_get (blocks_of form) p ≡ Some block → HasBlock g c j q block → j ≡ inode

-- The inodes that no walk meets are free now, and the others are as before.
pub record FreesOrphans (g : Geometry) (c d : Catalog) : Type 0 where
  pub slots : (block : ℕ) → d.slots block ≡ c.slots block
  pub each : (inode : ℕ) → IsInode g inode → (IsReached c inode × (d.forms inode ≡ c.forms inode)) ⊎ (IsUnreached c inode × IsFree (d.forms inode))

-- No name stands for the inode, and it isn't the root.
pub record IsUnnamed (g : Geometry) (c : Catalog) (inode : ℕ) : Type 0 where
  pub no_root : inode ≢ 1
  pub unnamed : (dir place : ℕ) (d : DentryForm) → HasDentry g c dir place d → d.inode ≢ inode

-- Some inodes that no name stands for are free now, and all others are as before.
pub record FreesUnnamed (g : Geometry) (c d : Catalog) : Type 0 where
  pub slots : (block : ℕ) → d.slots block ≡ c.slots block
  pub each : (inode : ℕ) → IsInode g inode → (d.forms inode ≡ c.forms inode) ⊎ (IsUnnamed g c inode × IsFree (d.forms inode))

-- The block lies before the data area, or an inode has it.
abbrev pub IsTakenBlock : Geometry → Catalog → ℕ → Type 0
IsTakenBlock g c block = (block < first_of_data g) ⊎ ((inode : ℕ) × (place : ℕ) × HasBlock g c inode place block)

-- Files without blocks that their sizes don't need.
use Rattle.std.specs.Prelude.{ℕ, ◌≡◌, ◌≢◌, ◌≤◌, ◌<◌, ◌+◌, ◌-◌, ◌⊎◌, ◌==◌, ◌&&◌, nat_lt, min, List, [], ◌∷◌, ◌++◌, length, slice_get, Bool, false, Option, Some, None, slice_index_or, if◌then◌else◌}
use Rattle.ufs_base.specs.Images.{Image}
use Rattle.ufs_disk.specs.Disk.{State, IsImage}
use Rattle.ufs_layout.specs.Areas.{sector_of_inode}
use Rattle.ufs_layout.specs.InodeForm.{InodeForm}
use Rattle.ufs_layout.specs.Superblock.{geometry_of}
use Rattle.ufs_layout.specs.declared.geometry.Geometry.{Geometry}
use Rattle.ufs_layout.specs.declared.inode.Extent.{Extent}
use Rattle.ufs_layout.specs.declared.superblock.Super.{Super}
use Rattle.ufs_image.specs.Catalog.{IsInode, catalog_at}
use Rattle.ufs_image.specs.Images.{inode_at, form_at}
use Rattle.ufs_image.specs.Nodes.{blocks_of}
use Rattle.ufs_image.specs.Walks.{SameWalks}
use Rattle.ufs_model.specs.Excuses as excuses
use Rattle.ufs_recovery.specs.Home.{IsAtHome}
use Rattle.ufs_recovery.specs.Recovered.{AreFitted, IsFitted}

-- ---- a form that is cut

-- the file has a block that its size doesn't need
abbrev pub has_extra : InodeForm → Bool
has_extra form = form.kind == 1 && nat_lt (excuses.blocks_of form.size) (length (blocks_of form))

-- None of these forms is such a file's.
abbrev pub HaveNoExtra : List (Option InodeForm) → Type 0
HaveNoExtra forms = (place : ℕ) (form : InodeForm) → slice_get forms place ≡ Some (Some form) → has_extra form ≡ false

-- at most so many blocks of an extent
abbrev pub first_part : Extent → ℕ → List Extent
first_part e count = if min e.length count == 0 then [] else (record { start = e.start; length = min e.length count }) ∷ []

-- the extents of the first so many blocks
abbrev pub first_extents : List Extent → ℕ → List Extent
first_extents [] count = []
first_extents (e ∷ es) count = first_part e count ++ first_extents es (count - e.length)

-- the form without the blocks that its size doesn't need
abbrev pub fitted : InodeForm → InodeForm
fitted form = record form { extents = first_extents form.extents (excuses.blocks_of form.size) }

-- ---- an inode that is written

-- The image has this form of the inode, and is else as before.
pub record HasFormPut (g : Geometry) (inode : ℕ) (form : InodeForm) (before image : Image) : Type 0 where
  pub there : inode_at g image inode ≡ Some form
  pub others : (sector : ℕ) → sector ≢ sector_of_inode g inode → image sector ≡ before sector

-- an image that a crash might have left before, as it was or with this form of the inode
pub record IsFormPut (g : Geometry) (inode : ℕ) (form : InodeForm) (state : State) (image : Image) : Type 0 where
  pub before : Image
  pub left : IsImage state before
  pub is : (image ≡ before) ⊎ HasFormPut g inode form before image

-- ---- all of them

-- These forms are those of the image from a place on; inode 1 has place 0.
abbrev pub AreReadFrom : ℕ → Geometry → Image → List (Option InodeForm) → Type 0
AreReadFrom first g image forms = (place : ℕ) → first ≤ place → place < g.inodes → slice_index_or forms place None ≡ inode_at g image (place + 1)

-- The image is at home and in use, and these are the forms of its inodes.
pub record MayFit (sectors : ℕ) (superblock : Super) (image : Image) (g : Geometry) (forms : List (Option InodeForm)) : Type 0 where
  pub home : IsAtHome sectors superblock image
  pub in_use : superblock.clean ≡ false
  pub geometry : g ≡ geometry_of superblock
  pub read : AreReadFrom 0 g image forms

-- It is at home, with the same walks, and each inode has the kind and the commit number that it had.
pub record KeepsInodes (sectors : ℕ) (superblock : Super) (before image : Image) : Type 0 where
  pub home : IsAtHome sectors superblock image
  pub walks : SameWalks (catalog_at (geometry_of superblock) before) (catalog_at (geometry_of superblock) image)
  pub kinds : (inode : ℕ) → IsInode (geometry_of superblock) inode → (form_at (geometry_of superblock) image inode).kind ≡ (form_at (geometry_of superblock) before inode).kind
  pub numbers : (inode : ℕ) → IsInode (geometry_of superblock) inode → (form_at (geometry_of superblock) image inode).number ≡ (form_at (geometry_of superblock) before inode).number

-- The files below a place are fitted, and the others' forms are as they were read.
pub record IsFittedBelow (sectors : ℕ) (superblock : Super) (g : Geometry) (forms : List (Option InodeForm)) (place : ℕ) (before image : Image) : Type 0 where
  pub in_use : superblock.clean ≡ false
  pub geometry : g ≡ geometry_of superblock
  pub kept : KeepsInodes sectors superblock before image
  pub done : (inode : ℕ) → IsInode (geometry_of superblock) inode → inode ≤ place → IsFitted (form_at (geometry_of superblock) image inode)
  pub read : AreReadFrom place g image forms

-- All files are fitted, and what was kept is.
pub record HasFitted (sectors : ℕ) (superblock : Super) (before image : Image) : Type 0 where
  pub kept : KeepsInodes sectors superblock before image
  pub fitted : AreFitted (geometry_of superblock) image

-- If the image may be fitted, it is.
abbrev pub GetsFitted : (sectors : ℕ) → Geometry → List (Option InodeForm) → (before image : Image) → Type 0
GetsFitted sectors g forms before image = (superblock : Super) → MayFit sectors superblock before g forms → HasFitted sectors superblock before image

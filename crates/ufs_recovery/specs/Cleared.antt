-- Inodes that are written anew, without blocks.
use Rattle.std.specs.Prelude.{ℕ, ◌≡◌, ◌<◌, ◌+◌, ◌*◌, ◌⊎◌, List, [], Option, Some}
use Rattle.std.specs.List.{slice_get}
use Rattle.ufs_base.specs.Images.{Image}
use Rattle.ufs_base.specs.declared.sizes.TheConstants.{SECTORS_PER_BLOCK}
use Rattle.ufs_disk.specs.Disk.{State, IsImage, put}
use Rattle.ufs_layout.specs.Areas.{first_of_inodes}
use Rattle.ufs_layout.specs.InodeForm.{InodeForm, inode_of}
use Rattle.ufs_layout.specs.declared.geometry.Geometry.{Geometry}

-- an inode without blocks
abbrev pub cleared : (kind number : ℕ) → InodeForm
cleared kind number = record { kind = kind; extents = []; size = 0; number = number }

-- the sector at a place of the inode table; inode 1 has place 0
abbrev pub sector_at : Geometry → ℕ → ℕ
sector_at g place = SECTORS_PER_BLOCK * first_of_inodes g + place

-- Of the inodes at these places those with a number are to be cleared, and the number is the one that they keep.
abbrev pub Numbers : Type 0
Numbers = List (Option ℕ)

-- The sector is that of such an inode, and the bytes are those of the inode without blocks.
pub record IsClearedAt (g : Geometry) (kind : ℕ) (numbers : Numbers) (sector : ℕ) (bytes : List ℕ) : Type 0 where
  pub place : ℕ
  pub number : ℕ
  pub chosen : slice_get numbers place ≡ Some (Some number)
  pub there : sector ≡ sector_at g place
  pub form : inode_of bytes ≡ Some (cleared kind number)

-- Some of them are cleared.
abbrev pub IsMixedCleared : Geometry → ℕ → Numbers → Image → Image → Type 0
IsMixedCleared g kind numbers before image = (sector : ℕ) → (image sector ≡ before sector) ⊎ IsClearedAt g kind numbers sector (image sector)

-- Those below a place are.
abbrev pub AreClearedBelow : Geometry → ℕ → Numbers → ℕ → Image → Type 0
AreClearedBelow g kind numbers end image = (place number : ℕ) → place < end → slice_get numbers place ≡ Some (Some number) → inode_of (image (sector_at g place)) ≡ Some (cleared kind number)

-- an image that a crash might have left before, with some of them cleared
pub record IsPartlyCleared (g : Geometry) (kind : ℕ) (numbers : Numbers) (state : State) (image : Image) : Type 0 where
  pub before : Image
  pub left : IsImage state before
  pub mixed : IsMixedCleared g kind numbers before image

-- an image that a crash might have left before, as it was or with these bytes in one sector
pub record HasSectorPut (sector : ℕ) (bytes : List ℕ) (state : State) (image : Image) : Type 0 where
  pub before : Image
  pub left : IsImage state before
  pub is : (image ≡ before) ⊎ (image ≡ put sector bytes before)

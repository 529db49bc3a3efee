-- The bits of the bitmap.
use Rattle.std.specs.Prelude.{ℕ, ◌≡◌, ◌<◌, ◌≤◌, ◌+◌, ◌*◌, ◌⊎◌, List, Bool, false, slice_index, slice_index_or, length, if◌then◌else◌}
use Rattle.std.specs.Int.{bit_at}
use Rattle.ufs_base.specs.Images.{Image}
use Rattle.ufs_base.specs.declared.sizes.TheConstants.{SECTORS_PER_BLOCK}
use Rattle.ufs_disk.specs.Disk.{State, IsImage}
use Rattle.ufs_layout.specs.Areas.{first_of_inodes}
use Rattle.ufs_layout.specs.declared.geometry.Geometry.{Geometry}
use Rattle.ufs_image.specs.Damage.{is_marked}

-- the bit of a block by these marks; a block past them is free
abbrev pub bit_of : List Bool → ℕ → ℕ
bit_of marks block = if slice_index_or marks block false then 1 else 0

-- The bytes have the bits of the blocks from one on, least first in each byte.
abbrev pub HasBits : List Bool → ℕ → List ℕ → Type 0
HasBits marks first bytes = (k i : ℕ) → k < length bytes → i < 8 → bit_at (slice_index bytes k) i ≡ bit_of marks (first + 8 * k + i)

-- The bitmap of the image marks the blocks below this one as these marks do.
abbrev pub IsMarkedBelow : List Bool → ℕ → Image → Type 0
IsMarkedBelow marks end image = (block : ℕ) → block < end → is_marked image block ≡ slice_index_or marks block false

-- The sector isn't of the bitmap.
abbrev pub IsOffBitmap : Geometry → ℕ → Type 0
IsOffBitmap g sector = (sector < SECTORS_PER_BLOCK) ⊎ (SECTORS_PER_BLOCK * first_of_inodes g ≤ sector)

-- Off the bitmap the images are the same.
abbrev pub AgreeOffBitmap : Geometry → Image → Image → Type 0
AgreeOffBitmap g before image = (sector : ℕ) → IsOffBitmap g sector → image sector ≡ before sector

-- an image that a crash might have left before, with anything in the bitmap
pub record HasAnyBitmap (g : Geometry) (state : State) (image : Image) : Type 0 where
  pub before : Image
  pub left : IsImage state before
  pub agrees : AgreeOffBitmap g before image

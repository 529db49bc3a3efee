-- Images: how many sectors there are, and what each has.
use Rattle.std.specs.Prelude.{ℕ, List, [], ◌<◌, slice_index_or, if◌then◌else◌, ◌==◌, flat_map, take, drop, ◌++◌, ◌*◌, ◌+◌, Option, unwrap_or}
use Rattle.ufs_base.specs.declared.sizes.TheConstants.{SLOT}
use Rattle.ufs_base.specs.Images.{Image, IsSector}
use Rattle.ufs_layout.specs.Areas.{sector_of_inode, sectors_of_block}
use Rattle.ufs_layout.specs.InodeForm.{InodeForm, inode_of, free_inode}
use Rattle.ufs_layout.specs.declared.geometry.Geometry.{Geometry}

-- the image that a list of sectors is
abbrev pub image_of : List (List ℕ) → Image
image_of sectors sector = slice_index_or sectors sector []

-- an image of so many sectors
abbrev pub IsImageOf : ℕ → Image → Type 0
IsImageOf sectors image = (sector : ℕ) → sector < sectors → IsSector (image sector)

-- an image with other bytes in one sector
abbrev pub with_sector : ℕ → List ℕ → Image → Image
with_sector sector bytes image k = if k == sector then bytes else image k

-- other bytes in one of a sector's eight slots
abbrev pub with_slot : ℕ → List ℕ → List ℕ → List ℕ
with_slot slot bytes sector = take (SLOT * slot) sector ++ bytes ++ drop (SLOT * slot + SLOT) sector

-- an inode, where its sector is on its form
abbrev pub inode_at : Geometry → Image → ℕ → Option InodeForm
inode_at g image inode = inode_of (image (sector_of_inode g inode))

-- An inode's sector that is off its form counts as a free inode with commit number 0.
abbrev pub form_at : Geometry → Image → ℕ → InodeForm
form_at g image inode = unwrap_or (inode_at g image inode) (free_inode 0)

abbrev pub block_at : Image → ℕ → List ℕ
block_at image block = flat_map image (sectors_of_block block)

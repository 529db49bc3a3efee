-- The image that formatting makes.
use Rattle.std.specs.Prelude.{ℕ, ◌+◌, ◌-◌, ◌*◌, ◌^◌, ◌<◌, ◌≤◌, ◌≡◌, ◌==◌, List, [], nat_le, if◌then◌else◌, map, replicate}
use Rattle.std.specs.List.{range_with_len}
use Rattle.ufs_base.specs.declared.sizes.TheConstants.{SECTOR, SECTORS_PER_BLOCK}
use Rattle.ufs_layout.specs.Areas.{bitmap_blocks, first_of_bitmap, first_of_journal, first_of_data, sector_of_inode}
use Rattle.ufs_layout.specs.Superblock.{super_bytes, new_super}
use Rattle.ufs_layout.specs.InodeForm.{InodeForm, inode_bytes, free_inode}
use Rattle.ufs_base.specs.Images.{Image}
use Rattle.ufs_image.specs.Volume.{Volume}
use Rattle.ufs_image.specs.Catalog.{Catalog}
use Rattle.ufs_layout.specs.declared.geometry.Geometry.{Geometry}

-- a byte of the bitmap in which the blocks below this one are used
abbrev pub byte_below : ℕ → ℕ → ℕ
byte_below used byte = if nat_le (8 * (byte + 1)) used then 255 else 2 ^ (used - 8 * byte) - 1

-- a sector of that bitmap
abbrev pub bitmap_below : ℕ → ℕ → List ℕ
bitmap_below used sector = map (byte_below used) (range_with_len (SECTOR * sector) SECTOR)

-- the root of a new image: a directory with no block
abbrev pub new_root : InodeForm
new_root = record { kind = 2; extents = []; size = 0; number = 0 }

abbrev pub empty_sector : List ℕ
empty_sector = replicate SECTOR 0

-- What lies in the data area doesn't matter.
pub record IsFormatted (g : Geometry) (image : Image) : Type 0 where
  pub superblock : image 0 ≡ super_bytes (new_super g)
  pub bitmap : (s : ℕ) → s < SECTORS_PER_BLOCK * bitmap_blocks g → image (SECTORS_PER_BLOCK * first_of_bitmap + s) ≡ bitmap_below (first_of_data g) s
  pub root : image (sector_of_inode g 1) ≡ inode_bytes new_root
  pub free : (inode : ℕ) → 1 < inode → inode ≤ g.inodes → image (sector_of_inode g inode) ≡ inode_bytes (free_inode 0)
  pub journal : (s : ℕ) → s < g.journal → image (SECTORS_PER_BLOCK * first_of_journal g + s) ≡ empty_sector

-- the new image, taken: nothing is folded over it
abbrev pub new_volume : Geometry → Image → Volume
new_volume g image = record { superblock = new_super g; geometry = g; image = image }

abbrev pub new_form : ℕ → InodeForm
new_form inode = if inode == 1 then new_root else free_inode 0

-- its catalog: the root, free inodes, and no block of a directory
abbrev pub new_catalog : Catalog
new_catalog = record { forms = new_form; slots = λ _. [] }

-- The sectors between the superblock's block and the data area, and those that formatting leaves alone.
use Rattle.std.specs.Prelude.{◌≡◌, ◌⊎◌, ◌<◌, ◌≤◌, ℕ, ◌+◌, ◌-◌, ◌*◌, List, take, drop}
use Rattle.ufs_base.specs.Images.{Image}
use Rattle.ufs_layout.specs.Areas.{first_of_inodes, first_of_journal, first_of_data, sector_of_inode}
use Rattle.ufs_layout.specs.InodeForm.{inode_bytes}
use Rattle.ufs_image.specs.Formatted.{bitmap_below, new_root, empty_sector}
use Rattle.ufs_layout.specs.declared.geometry.Geometry.{Geometry}

-- Zeros follow behind the last inode and behind the last sector of the journal, to the end of their blocks.
pub record HasZeroTails (g : Geometry) (image : Image) : Type 0 where
  pub inodes : (s : ℕ) → sector_of_inode g g.inodes < s → s < 8 * first_of_journal g → image s ≡ empty_sector
  pub journal : (s : ℕ) → 8 * first_of_journal g + g.journal ≤ s → s < 8 * first_of_data g → image s ≡ empty_sector

-- The sector is in the superblock's block behind the superblock, or not before the data area.
abbrev pub IsOutside : Geometry → ℕ → Type 0
IsOutside g sector = ((1 ≤ sector) × (sector < 8)) ⊎ (8 * first_of_data g ≤ sector)

-- ---- what formatting writes between

-- the bitmap, then the root, and then nothing but zeros
pub record IsTableSector (g : Geometry) (sector : ℕ) (bytes : List ℕ) : Type 0 where
  pub bitmap : sector < 8 * first_of_inodes g → bytes ≡ bitmap_below (first_of_data g) (sector - 8)
  pub root : sector ≡ 8 * first_of_inodes g → bytes ≡ inode_bytes new_root
  pub rest : 8 * first_of_inodes g < sector → bytes ≡ empty_sector

-- the bytes of such a block
pub record IsTableBlock (g : Geometry) (block : ℕ) (bytes : List ℕ) : Type 0 where
  pub sectors : (i : ℕ) → i < 8 → IsTableSector g (8 * block + i) (take 512 (drop (512 * i) bytes))

-- an image in which the blocks from 1 to this one, it left out, are such blocks
pub record HasTablesBelow (g : Geometry) (block : ℕ) (image : Image) : Type 0 where
  pub sectors : (s : ℕ) → 8 ≤ s → s < 8 * block → IsTableSector g s (image s)

-- Where everything lies in an image, by the three numbers of its geometry.
use Rattle.std.specs.Prelude.{ℕ, ◌+◌, ◌-◌, ◌*◌, ◌/◌, ◌<◌, ◌≤◌, List, Bool, ◌&&◌, not, nat_lt, nat_le, Option}
use Rattle.std.specs.List.{range_with_len}
use Rattle.ufs_base.specs.Choices.{first_of, refused_if}
use Rattle.ufs_base.specs.declared.sizes.TheConstants.{SECTORS_PER_BLOCK, MAX_BLOCKS}
use Rattle.ufs_layout.specs.declared.geometry.TheConstants.{BLOCK_BITS, MIN_BLOCKS, MIN_INODES, MAX_INODES, MIN_JOURNAL, MAX_JOURNAL, FIRST_OF_BITMAP}
use Rattle.ufs_layout.specs.declared.geometry.Geometry.{Geometry}
use Rattle.ufs_layout.specs.declared.geometry.BadGeometry.{BadGeometry}
use Rattle.ufs_layout.specs.declared.geometry.BadGeometry.TheVariants.{Blocks, Inodes, Journal, NoData}

-- how many pieces of this size hold n
abbrev pub count_up : ℕ → ℕ → ℕ
count_up n size = (n + (size - 1)) / size

abbrev pub bitmap_blocks : Geometry → ℕ
bitmap_blocks g = count_up g.blocks BLOCK_BITS

-- the first block of each area; the superblock is block 0
abbrev pub first_of_bitmap : ℕ
first_of_bitmap = FIRST_OF_BITMAP

abbrev pub first_of_inodes : Geometry → ℕ
first_of_inodes g = first_of_bitmap + bitmap_blocks g

abbrev pub first_of_journal : Geometry → ℕ
first_of_journal g = first_of_inodes g + count_up g.inodes SECTORS_PER_BLOCK

abbrev pub first_of_data : Geometry → ℕ
first_of_data g = first_of_journal g + count_up g.journal SECTORS_PER_BLOCK

-- a geometry that is taken: each number in its limits, and a data block left
pub record IsGeometry (g : Geometry) : Type 0 where
  pub least_blocks : MIN_BLOCKS ≤ g.blocks
  pub most_blocks : g.blocks ≤ MAX_BLOCKS
  pub least_inodes : MIN_INODES ≤ g.inodes
  pub most_inodes : g.inodes ≤ MAX_INODES
  pub least_journal : MIN_JOURNAL ≤ g.journal
  pub most_journal : g.journal ≤ MAX_JOURNAL
  pub data_left : first_of_data g < g.blocks

-- why a geometry is refused, the first of four reasons
abbrev pub geometry_refusal : Geometry → Option BadGeometry
geometry_refusal g =
    first_of (refused_if (not (nat_le MIN_BLOCKS g.blocks && nat_le g.blocks MAX_BLOCKS)) Blocks)
    (first_of (refused_if (not (nat_le MIN_INODES g.inodes && nat_le g.inodes MAX_INODES)) Inodes)
    (first_of (refused_if (not (nat_le MIN_JOURNAL g.journal && nat_le g.journal MAX_JOURNAL)) Journal)
    (refused_if (nat_le g.blocks (first_of_data g)) NoData)))

-- the number by which a refusal is told
abbrev pub refusal_number : BadGeometry → ℕ
refusal_number Blocks = 1
refusal_number Inodes = 2
refusal_number Journal = 3
refusal_number NoData = 4

abbrev pub sector_count : Geometry → ℕ
sector_count g = SECTORS_PER_BLOCK * g.blocks

-- an inode's sector; inode 1 is the root
abbrev pub sector_of_inode : Geometry → ℕ → ℕ
sector_of_inode g inode = SECTORS_PER_BLOCK * first_of_inodes g + (inode - 1)

abbrev pub journal_sectors : Geometry → List ℕ
journal_sectors g = range_with_len (SECTORS_PER_BLOCK * first_of_journal g) g.journal

-- the inodes, by rising number
abbrev pub all_inodes : Geometry → List ℕ
all_inodes g = range_with_len 1 g.inodes

abbrev pub is_inode_number : Geometry → ℕ → Bool
is_inode_number g inode = nat_le 1 inode && nat_le inode g.inodes

abbrev pub data_blocks : Geometry → List ℕ
data_blocks g = range_with_len (first_of_data g) (g.blocks - first_of_data g)

abbrev pub is_data_sector : Geometry → ℕ → Bool
is_data_sector g sector = nat_le (SECTORS_PER_BLOCK * first_of_data g) sector && nat_lt sector (sector_count g)

-- the sectors of a block
abbrev pub sectors_of_block : ℕ → List ℕ
sectors_of_block block = range_with_len (SECTORS_PER_BLOCK * block) SECTORS_PER_BLOCK

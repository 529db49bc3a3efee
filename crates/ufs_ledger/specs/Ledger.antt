-- A disk in the words of those above the store: a catalog, contents of blocks, and what is committed.
use Rattle.std.specs.Prelude.{ℕ, ◌≡◌, ◌≤◌, ◌<◌, ◌/◌, ◌==◌, ◌⊎◌, List, [], ◌∷◌, ◌++◌, length, Bool, true, false, IsTrue, Option, Some, Ok}
use Rattle.std.specs.List.{list_any}
use Rattle.ufs_base.specs.declared.sizes.TheConstants.{BLOCK, SECTORS_PER_BLOCK}
use Rattle.ufs_disk.specs.Disk.{Cell, State, possible, seen, Leaves}
use Rattle.ufs_layout.specs.Areas.{first_of_data}
use Rattle.ufs_layout.specs.Superblock.{geometry_of}
use Rattle.ufs_base.specs.Images.{Image}
use Rattle.ufs_image.specs.Images.{block_at}
use Rattle.ufs_image.specs.Journal.{committed}
use Rattle.ufs_image.specs.Proper.{IsProperClean}
use Rattle.ufs_image.specs.Volume.{Volume, volume}
use Rattle.ufs_journal.specs.Kept.{HasNoLater}
use Rattle.ufs_layout.specs.declared.geometry.Geometry.{Geometry}
use Rattle.ufs_layout.specs.declared.superblock.Super.{Super}
use Rattle.ufs_layout.specs.declared.records.LogRecord.{LogRecord}
use Rattle.ufs_layout.specs.declared.records.LogRecord.TheVariants.{Delta, Place, Free}
use Rattle.ufs_layout.specs.declared.records.Committed.{Committed}
use Rattle.ufs_crash_laws.specs.FileChanges.{byte_at}
use Rattle.ufs_image.specs.Catalog.{Catalog, HasDirBlocks}
use Rattle.ufs_image.specs.Sound.{IsSoundCatalog}
use Rattle.ufs_image.specs.Folding.{Spells, with_committed_in}

-- ---- blocks

pub record IsDataBlock (g : Geometry) (block : ℕ) : Type 0 where
  pub from : first_of_data g ≤ block
  pub under : block < g.blocks

-- One of the contents has this byte at this place.
abbrev pub HasByte : List (List ℕ) → ℕ → ℕ → Type 0
HasByte [] place byte = ⊥
HasByte (x ∷ xs) place byte = (byte ≡ byte_at x place) ⊎ HasByte xs place byte

-- A block of which each byte is from one of these contents. A crash may mix them, sector by sector.
pub record IsMixOf (contents : List (List ℕ)) (bytes : List ℕ) : Type 0 where
  pub size : length bytes ≡ BLOCK
  pub each : (place : ℕ) → place < BLOCK → HasByte contents place (byte_at bytes place)

-- the record sets a dentry in this block
abbrev pub is_set_in : ℕ → LogRecord → Bool
is_set_in block (Delta inode kind size keep extents) = false
is_set_in block (Place sector slot dentry) = sector / SECTORS_PER_BLOCK == block
is_set_in block (Free inode) = false

-- Committed records set dentries in this block. Until they are written home and the next epoch has begun, folding sets them
-- again, whatever is written there.
abbrev pub is_held : List Committed → ℕ → Bool
is_held log block = list_any (λ (t : Committed). list_any (is_set_in block) t.records) log

-- ---- what is committed

-- a catalog, the blocks in which its dentries are spelled, and the transactions of the journal that led to it
pub record Stand : Type 0 where
  pub catalog : Catalog
  pub dirs : ℕ → Bool
  pub log : List Committed

-- The blocks of its directories are among those.
abbrev pub CoversDirs : Geometry → Stand → Type 0
CoversDirs g s = HasDirBlocks g s.catalog s.dirs

-- with one more transaction
abbrev pub with_one : Geometry → Committed → Stand → Stand
with_one g t s = record { catalog = with_committed_in g t s.catalog; dirs = s.dirs; log = s.log ++ t ∷ [] }

-- The image is taken with this superblock, its journal has just these transactions and nothing of a later epoch, and its folded
-- sectors spell this catalog, which is sound. In the blocks where nothing is folded stand contents that the cells have. Where
-- the superblock is marked clean, the image is as a clean one is to be.
pub record IsLeft (sectors : ℕ) (superblock : Super) (blocks : ℕ → Cell) (s : Stand) (image : Image) : Type 0 where
  pub as_volume : Volume
  pub taken : volume sectors image ≡ Ok as_volume
  pub superblock_is : as_volume.superblock ≡ superblock
  pub logged : committed (geometry_of superblock) superblock.epoch image ≡ s.log
  pub latest : HasNoLater (geometry_of superblock) superblock.epoch image
  pub spells : Spells (geometry_of superblock) true s.dirs as_volume.image s.catalog
  pub covers : CoversDirs (geometry_of superblock) s
  pub sound : IsSoundCatalog (geometry_of superblock) s.catalog
  pub contents : (block : ℕ) → IsDataBlock (geometry_of superblock) block → is_held s.log block ≡ false → IsMixOf (possible (blocks block)) (block_at image block)
  pub if_clean : IsTrue superblock.clean → IsProperClean as_volume image

-- ---- the ledger

-- a superblock, and what stands behind it
pub record Standing : Type 0 where
  pub superblock : Super
  pub stand : Stand

pub record Ledger : Type 0 where
  -- the superblock on the disk
  pub superblock : Super
  -- what is committed
  pub now : Stand
  -- behind a commit or a checkpoint that failed: what a crash may leave too
  pub maybe : Option Standing
  -- each block of the data area in which nothing is folded: what a read gives, and what else a crash may leave, oldest first
  pub blocks : ℕ → Cell

-- what a crash may leave
abbrev pub IsLeftBy : ℕ → Ledger → Image → Type 0
IsLeftBy sectors l image =
    IsLeft sectors l.superblock l.blocks l.now image
    ⊎ ((other : Standing) × (l.maybe ≡ Some other) × IsLeft sectors other.superblock l.blocks other.stand image)

-- A disk in this state has this ledger.
pub record IsLedgerOf (sectors : ℕ) (state : State) (l : Ledger) : Type 0 where
  pub images : Leaves (IsLeftBy sectors l) state
  pub reads : (block : ℕ) → IsDataBlock (geometry_of l.superblock) block → is_held l.now.log block ≡ false → block_at (seen state) block ≡ (l.blocks block).seen

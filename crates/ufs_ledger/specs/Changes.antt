-- What a store's calls do to a ledger.
use Rattle.std.specs.Prelude.{ℕ, ◌≡◌, ◌==◌, List, [], ◌∷◌, length, replicate, Bool, true, false, ◌&&◌, ◌||◌, nat_lt, if◌then◌else◌, Some, None}
use Rattle.ufs_base.specs.declared.sizes.TheConstants.{SLOTS_PER_BLOCK}
use Rattle.ufs_disk.specs.Disk.{Cell, possible}
use Rattle.ufs_layout.specs.Superblock.{geometry_of}
use Rattle.ufs_layout.specs.DentryForm.{free_slot}
use Rattle.std.specs.List.{list_any}
use Rattle.ufs_layout.specs.Areas.{all_inodes}
use Rattle.ufs_image.specs.Nodes.{blocks_of}
use Rattle.ufs_base.specs.Images.{Image}
use Rattle.ufs_image.specs.Images.{block_at}
use Rattle.ufs_image.specs.Fold.{folded, is_in_range}
use Rattle.ufs_layout.specs.declared.geometry.Geometry.{Geometry}
use Rattle.ufs_layout.specs.declared.superblock.Super.{Super}
use Rattle.ufs_layout.specs.declared.records.LogRecord.{LogRecord}
use Rattle.ufs_layout.specs.declared.records.LogRecord.TheVariants.{Delta, Place, Free}
use Rattle.ufs_layout.specs.declared.records.Committed.{Committed}
use Rattle.ufs_image.specs.Sound.{IsSoundCatalog}
use Rattle.ufs_image.specs.Catalog.{Catalog, catalog_at}
use Rattle.ufs_image.specs.Folding.{FitsCommitted, is_newer_in, with_valid_in, with_committed_in}
use Rattle.ufs_ledger.specs.Ledger.{Stand, with_one, CoversDirs, is_held, Ledger}

-- ---- a commit

-- The record keeps more extents than there are.
abbrev pub keeps_too_many_in : ℕ → Catalog → Catalog → LogRecord → Bool
keeps_too_many_in number before c (Delta inode kind size keep extents) = is_newer_in number before inode && nat_lt (length (c.forms inode).extents) keep
keeps_too_many_in number before c (Place sector slot dentry) = false
keeps_too_many_in number before c (Free inode) = false

-- One of them does, as they are applied in turn.
abbrev pub keeps_more_in : Geometry → ℕ → Catalog → List LogRecord → Catalog → Bool
keeps_more_in g number before [] c = false
keeps_more_in g number before (r ∷ rs) c = (is_in_range g r && keeps_too_many_in number before c r) || keeps_more_in g number before rs (with_valid_in g number before r c)

-- A transaction that may be committed next: it is spelled, and behind it the catalog is sound, with its directories in the
-- blocks where dentries are spelled.
pub record MayCommit (g : Geometry) (t : Committed) (s : Stand) : Type 0 where
  pub fits : FitsCommitted t
  pub keeps : keeps_more_in g t.number s.catalog t.records s.catalog ≡ false
  pub covers : CoversDirs g (with_one g t s)
  pub sound : IsSoundCatalog g (with_committed_in g t s.catalog)

-- while it is committed, and for good where that failed
abbrev pub committing : Committed → Ledger → Ledger
committing t l = record l { maybe = Some (record { superblock = l.superblock; stand = with_one (geometry_of l.superblock) t l.now }) }

abbrev pub settled_cell : Cell → Cell
settled_cell cell = record { older = []; seen = cell.seen }

-- after a barrier that succeeded
abbrev pub settled : Ledger → Ledger
settled l = record l { blocks = λ block. settled_cell (l.blocks block) }

-- after a commit that succeeded
abbrev pub committed_one : Committed → Ledger → Ledger
committed_one t l = record l { now = with_one (geometry_of l.superblock) t l.now; blocks = λ block. settled_cell (l.blocks block) }

-- ---- a write

-- a write of these bytes: a crash leaves what it might have left, or these
abbrev pub rewritten : ℕ → List ℕ → (ℕ → Cell) → ℕ → Cell
rewritten block bytes blocks k = if k == block then record { older = possible (blocks k); seen = bytes } else blocks k

abbrev pub written : ℕ → List ℕ → Ledger → Ledger
written block bytes l = record l { blocks = rewritten block bytes l.blocks }

-- a write of these bytes that failed, after which this is read
abbrev pub tried : ℕ → List ℕ → List ℕ → Ledger → Ledger
tried block bytes reads l = record l { blocks = rewritten block reads (rewritten block bytes l.blocks) }

-- ---- a checkpoint

-- the same with nothing in the journal
abbrev pub without_log : Stand → Stand
without_log s = record s { log = [] }

-- the disk as it reads once all is home
abbrev pub home_of : Ledger → Image → Image
home_of l image = folded (geometry_of l.superblock) l.now.log image

-- what stands in the blocks once all is home; the others are settled
abbrev pub home_cells : (ℕ → List ℕ) → Ledger → ℕ → Cell
home_cells home l block = if is_held l.now.log block then record { older = []; seen = home block } else settled_cell (l.blocks block)

-- while the next superblock is written, and for good where that failed
abbrev pub beginning : Super → (ℕ → List ℕ) → Ledger → Ledger
beginning superblock home l = record l { maybe = Some (record { superblock = superblock; stand = without_log l.now }); blocks = home_cells home l }

-- after a checkpoint that succeeded
abbrev pub emptied : Super → (ℕ → List ℕ) → Ledger → Ledger
emptied superblock home l = record { superblock = superblock; now = without_log l.now; maybe = None; blocks = home_cells home l }

-- ---- a directory's new block

-- a block of zeros, in which dentries are to stand
abbrev pub with_free_block : ℕ → Stand → Stand
with_free_block block s = record {
  catalog = record (s.catalog) { slots = λ k. if k == block then replicate SLOTS_PER_BLOCK free_slot else s.catalog.slots k };
  dirs = λ k. if k == block then true else s.dirs k;
  log = s.log;
}

-- ---- a mount

-- the blocks of directories
abbrev pub dir_blocks : Geometry → Catalog → ℕ → Bool
dir_blocks g c block = list_any (λ inode. (c.forms inode).kind == 2 && list_any (λ b. b == block) (blocks_of (c.forms inode))) (all_inodes g)

-- what a disk has on which nothing is pending and nothing is folded
abbrev pub opening_ledger : Super → Image → Ledger
opening_ledger superblock image = record {
  superblock = superblock;
  now = record { catalog = catalog_at (geometry_of superblock) image; dirs = dir_blocks (geometry_of superblock) (catalog_at (geometry_of superblock) image); log = [] };
  maybe = None;
  blocks = λ block. record { older = []; seen = block_at image block };
}

-- with other blocks in which dentries are spelled
abbrev pub with_dirs : (ℕ → Bool) → Stand → Stand
with_dirs dirs s = record s { dirs = dirs }

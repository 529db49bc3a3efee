-- Images that have the same in some sectors.
use Rattle.std.specs.Prelude.{ℕ, ◌≡◌, ◌<◌, ◌≤◌, ◌*◌, ◌+◌, Bool, IsTrue, Some}
use Rattle.std.specs.List.{slice_get}
use Rattle.ufs_base.specs.declared.sizes.TheConstants.{SECTORS_PER_BLOCK}
use Rattle.ufs_layout.specs.Areas.{first_of_journal, first_of_data}
use Rattle.ufs_layout.specs.InodeForm.{InodeForm}
use Rattle.ufs_base.specs.Images.{Image}
use Rattle.ufs_image.specs.Nodes.{blocks_of}
use Rattle.ufs_layout.specs.declared.geometry.Geometry.{Geometry}
use Rattle.ufs_image.specs.Catalog.{Catalog, IsDirBlock}

abbrev pub AgreeOn : (ℕ → Type 0) → Image → Image → Type 0
AgreeOn these image other = (sector : ℕ) → these sector → image sector ≡ other sector

-- It lies before the data area.
abbrev pub IsMetadata : Geometry → ℕ → Type 0
IsMetadata g sector = sector < SECTORS_PER_BLOCK * first_of_data g

-- It is of the journal.
pub record IsOfJournal (g : Geometry) (sector : ℕ) : Type 0 where
  pub from : SECTORS_PER_BLOCK * first_of_journal g ≤ sector
  pub below : sector < SECTORS_PER_BLOCK * first_of_journal g + g.journal

-- It is of this block.
pub record IsOfBlock (block sector : ℕ) : Type 0 where
  pub slot : ℕ
  pub in_block : slot < SECTORS_PER_BLOCK
  pub same : sector ≡ SECTORS_PER_BLOCK * block + slot

-- It is of a directory's block.
pub record IsOfDir (g : Geometry) (c : Catalog) (sector : ℕ) : Type 0 where
  pub block : ℕ
  pub dir_block : IsDirBlock g c block
  pub of_block : IsOfBlock block sector

-- It is of a block of this inode.
pub record IsOfForm (form : InodeForm) (sector : ℕ) : Type 0 where
  pub place : ℕ
  pub block : ℕ
  pub there : slice_get (blocks_of form) place ≡ Some block
  pub of_block : IsOfBlock block sector

-- Among these sectors are all of which paths are read: what lies before the data area, and the blocks of directories.
pub record HasPathSectors (g : Geometry) (c : Catalog) (these : ℕ → Bool) : Type 0 where
  pub metadata : (sector : ℕ) → IsMetadata g sector → IsTrue (these sector)
  pub dirs : (sector : ℕ) → IsOfDir g c sector → IsTrue (these sector)

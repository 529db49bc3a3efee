-- What a stop may leave while folded sectors are written home.
use Rattle.std.specs.Prelude.{ℕ, ◌≡◌, ◌≤◌, ◌*◌, ◌⊎◌, List}
use Rattle.ufs_base.specs.Images.{Image}
use Rattle.ufs_base.specs.declared.sizes.TheConstants.{SECTORS_PER_BLOCK}
use Rattle.ufs_layout.specs.Areas.{sector_of_inode, first_of_inodes, first_of_data}
use Rattle.ufs_layout.specs.InodeForm.{InodeForm, inode_bytes}
use Rattle.ufs_image.specs.Volume.{Volume}
use Rattle.ufs_image.specs.Catalog.{Catalog, IsInode}
use Rattle.ufs_image.specs.Agree.{IsOfJournal}
use Rattle.ufs_image.specs.Folding.{FitsForm}
use Rattle.ufs_image.specs.Changes.{FreesUnnamed}

-- The superblock and the journal stand.
pub record KeepsJournal (v : Volume) (image mix : Image) : Type 0 where
  pub superblock : mix 0 ≡ image 0
  pub journal : (sector : ℕ) → IsOfJournal v.geometry sector → mix sector ≡ image sector

-- Any sectors from this one on are as folding makes them, and the others as they were.
abbrev pub IsMixFrom : ℕ → Volume → Image → Image → Type 0
IsMixFrom first v image mix = (sector : ℕ) → first ≤ sector → (mix sector ≡ image sector) ⊎ (mix sector ≡ v.image sector)

-- Any sectors of the inode table and the data area are written, and the bitmap has anything.
pub record IsPartlyHome (v : Volume) (image mix : Image) : Type 0 where
  pub stands : KeepsJournal v image mix
  pub home : IsMixFrom (SECTORS_PER_BLOCK * first_of_inodes v.geometry) v image mix

-- What may have been written of an inode: nothing yet, or a form with a commit number that isn't lower.
abbrev pub IsHome : (bytes written : List ℕ) (old new : InodeForm) → Type 0
IsHome bytes written old new = ((written ≡ bytes) × (new ≡ old)) ⊎ (FitsForm new × (old.number ≤ new.number) × (written ≡ inode_bytes new))

-- The same where inodes that no name stands for are freed on the way, so that the image has the catalog `d`.
pub record IsPartlyFreed (v : Volume) (image mix : Image) (c d : Catalog) : Type 0 where
  pub stands : KeepsJournal v image mix
  pub data_area : IsMixFrom (SECTORS_PER_BLOCK * first_of_data v.geometry) v image mix
  pub frees : FreesUnnamed v.geometry c d
  pub inodes : (inode : ℕ) → IsInode v.geometry inode → IsHome (image (sector_of_inode v.geometry inode)) (mix (sector_of_inode v.geometry inode)) (c.forms inode) (d.forms inode)

-- What is left to do once the next epoch has begun, and what is written back in the end.
use Rattle.std.specs.Prelude.{ℕ, ◌≡◌, ◌<◌, ◌≤◌, ◌+◌, Bool, None, Ok, true}
use Rattle.ufs_base.specs.Images.{Image}
use Rattle.ufs_damage.specs.Findings.{AreFindingsOf, CatalogRead}
use Rattle.ufs_disk.specs.Disk.{IsSettled}
use Rattle.ufs_disk.specs.Moments.{Moments, reads}
use Rattle.ufs_image.specs.Agree.{IsOfJournal}
use Rattle.ufs_image.specs.Catalog.{IsInode}
use Rattle.ufs_image.specs.Damage.{bad_tree}
use Rattle.ufs_image.specs.Images.{form_at}
use Rattle.ufs_image.specs.Journal.{epoch_in}
use Rattle.ufs_image.specs.Proper.{IsProperImage}
use Rattle.ufs_image.specs.Volume.{superblock_of, volume}
use Rattle.ufs_layout.specs.Superblock.{geometry_of}
use Rattle.ufs_layout.specs.declared.geometry.Geometry.{Geometry}
use Rattle.ufs_layout.specs.declared.superblock.Super.{Super}
use Rattle.ufs_overlay.specs.Seen.{HasAdded}
use Rattle.ufs_volume.specs.Volumes.{committed_in, folded_image, volume_in}
use Rattle.ufs_volume.specs.declared.volume.FoldedVolume.{FoldedVolume}
use Rattle.ufs_recovery.specs.Cleared.{Numbers}
use Rattle.ufs_recovery.specs.Home.{IsAtHome, KeepsTree}
use Rattle.ufs_recovery.specs.Orphans.{IsPruned, IsReadOf, MayPrune}
use Rattle.ufs_recovery.specs.Recovered.{AreFitted, AreInodesBelow, HasNoOrphans}

-- Orphans may be freed, the findings tell the used blocks, and the commit numbers are behind.
pub record MayFinish (sectors : ℕ) (superblock : Super) (image : Image) (g : Geometry) (findings : CatalogRead) (numbers dirs : Numbers) : Type 0 where
  pub prune : MayPrune sectors superblock image g numbers dirs
  pub read : IsReadOf g image findings
  pub behind : (inode : ℕ) → IsInode (geometry_of superblock) inode → (form_at (geometry_of superblock) image inode).number < superblock.next

-- Orphans are freed, and no file has a block that its size doesn't need.
pub record IsTidy (sectors : ℕ) (superblock : Super) (before after : Image) : Type 0 where
  pub pruned : IsPruned sectors superblock before after
  pub fitted : AreFitted (geometry_of superblock) after

-- If these numbers stood for the orphans and the findings were of this image, it is tidy.
abbrev pub GetsTidy : (sectors : ℕ) → Geometry → CatalogRead → (numbers dirs : Numbers) → (before after : Image) → Type 0
GetsTidy sectors g findings numbers dirs before after =
    (superblock : Super) → MayPrune sectors superblock before g numbers dirs → IsReadOf g before findings → IsTidy sectors superblock before after

-- Meanwhile the tree is kept.
abbrev pub KeepsTreeTidying : Bool → (sectors : ℕ) → Geometry → CatalogRead → (numbers dirs : Numbers) → Moments → Moments → Type 0
KeepsTreeTidying keeps sectors g findings numbers dirs old new =
    IsSettled old.state → (superblock : Super) → MayPrune sectors superblock (reads old) g numbers dirs → IsReadOf g (reads old) findings → KeepsTree keeps sectors old new

-- The image is clean and proper, without orphans and with no block too many, and the commit numbers are those that were, and
-- behind.
pub record HasFinished (sectors : ℕ) (superblock : Super) (before after : Image) : Type 0 where
  pub home : IsAtHome sectors (record superblock { clean = true }) after
  pub proper : IsProperImage sectors after
  pub named : HasNoOrphans (geometry_of superblock) after
  pub fitted : AreFitted (geometry_of superblock) after
  pub behind : (inode : ℕ) → IsInode (geometry_of superblock) inode → (form_at (geometry_of superblock) after inode).number < superblock.next
  pub numbers : (inode : ℕ) → IsInode (geometry_of superblock) inode → (form_at (geometry_of superblock) after inode).number ≡ (form_at (geometry_of superblock) before inode).number

-- This is the volume of the image and what was read of it, undamaged, and no sector of the journal is of a later epoch.
pub record MayWriteBack (sectors : ℕ) (image : Image) (v : FoldedVolume) (findings : CatalogRead) : Type 0 where
  pub taken : volume sectors image ≡ Ok (volume_in v image)
  pub added : HasAdded v.overlay (committed_in v image)
  pub found : AreFindingsOf v.superblock.geometry (folded_image v image) findings
  pub whole : bad_tree v.superblock.geometry (folded_image v image) ≡ None
  pub none_later : (sector : ℕ) → IsOfJournal v.superblock.geometry sector → epoch_in (image sector) ≤ v.superblock.superblock.epoch

-- The image is clean and proper in the next epoch, without orphans and with no block too many, and its next commit number is
-- the least above this one, which was used, and above those of all inodes that isn't below the one it had. The inodes have the
-- numbers that they had in the image as its transactions left it.
pub record IsWrittenBack (sectors : ℕ) (superblock : Super) (folded : Image) (used : ℕ) (after : Image) : Type 0 where
  pub proper : IsProperImage sectors after
  pub superblock_is : superblock_of after ≡ record superblock { version = 1; epoch = superblock.epoch + 1; next = (superblock_of after).next; clean = true }
  pub known : superblock.next ≤ (superblock_of after).next
  pub above : used < (superblock_of after).next
  pub inodes : (inode : ℕ) → IsInode (geometry_of superblock) inode → (form_at (geometry_of superblock) after inode).number < (superblock_of after).next
  pub least : (n : ℕ) → superblock.next ≤ n → used < n → AreInodesBelow (geometry_of superblock) after n → (superblock_of after).next ≤ n
  pub numbers : (inode : ℕ) → IsInode (geometry_of superblock) inode → (form_at (geometry_of superblock) after inode).number ≡ (form_at (geometry_of superblock) folded inode).number
  pub named : HasNoOrphans (geometry_of superblock) after
  pub fitted : AreFitted (geometry_of superblock) after

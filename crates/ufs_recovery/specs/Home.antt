-- Images in which all that is committed is home.
use Rattle.std.specs.Prelude.{ℕ, ◌≡◌, ◌≢◌, ◌<◌, ◌≤◌, ◌*◌, List, Bool, true, false}
use Rattle.ufs_base.specs.declared.sizes.TheConstants.{SECTORS_PER_BLOCK}
use Rattle.ufs_damage.specs.Taken.{AreTaken}
use Rattle.ufs_overlay.specs.Seen as overlaid
use Rattle.ufs_overlay.specs.declared.overlay.Overlay.{Overlay}
use Rattle.ufs_base.specs.Images.{Image}
use Rattle.ufs_disk.specs.Moments.{Moments, LeavesOnly, reads}
use Rattle.ufs_layout.specs.Areas.{first_of_inodes}
use Rattle.ufs_layout.specs.Superblock.{geometry_of}
use Rattle.ufs_layout.specs.declared.geometry.Geometry.{Geometry}
use Rattle.ufs_layout.specs.declared.superblock.Super.{Super}
use Rattle.ufs_image.specs.Agree.{IsOfJournal}
use Rattle.ufs_image.specs.Catalog.{Catalog, IsInode, catalog_at}
use Rattle.ufs_image.specs.Images.{form_at}
use Rattle.ufs_image.specs.Nodes.{sound_nodes}
use Rattle.ufs_image.specs.Proper.{IsProperImage}
use Rattle.ufs_image.specs.Journal.{committed, epoch_in}
use Rattle.ufs_image.specs.Opens.{opens}
use Rattle.ufs_image.specs.Standing.{IsVolumeOf}
use Rattle.ufs_image.specs.Volume.{Volume}

-- The image is taken with this superblock as it stands, with a sound catalog, and each sector of its journal is of an earlier
-- epoch.
pub record IsAtHome (sectors : ℕ) (superblock : Super) (image : Image) : Type 0 where
  pub is : IsVolumeOf sectors image (record { superblock = superblock; geometry = geometry_of superblock; image = image }) (catalog_at (geometry_of superblock) image)
  pub earlier : (sector : ℕ) → IsOfJournal (geometry_of superblock) sector → epoch_in (image sector) < superblock.epoch

-- The image is taken with a sound catalog, and the overlay has what is committed in it.
pub record IsOver (sectors : ℕ) (image : Image) (v : Volume) (overlay : Overlay) : Type 0 where
  pub is : IsVolumeOf sectors image v (catalog_at v.geometry v.image)
  pub geometry : overlaid.geometry_of overlay ≡ v.geometry
  pub added : overlaid.HasAdded overlay (committed v.geometry v.superblock.epoch image)

-- All that is committed in an image is home, no sector of the journal is of this superblock's epoch or of a later one, and
-- with this superblock it is proper.
pub record IsBroughtHome (sectors : ℕ) (home : Image) (new : Super) : Type 0 where
  pub image : Image
  pub as_volume : Volume
  pub catalog : Catalog
  pub is : IsVolumeOf sectors image as_volume catalog
  pub all : (sector : ℕ) → home sector ≡ as_volume.image sector
  pub same : opens sectors home ≡ opens sectors image
  pub geometry : geometry_of new ≡ as_volume.geometry
  pub earlier : (sector : ℕ) → IsOfJournal as_volume.geometry sector → epoch_in (home sector) < new.epoch
  pub proper : (after : Image) → IsAtHome sectors new after → ((sector : ℕ) → sector ≢ 0 → after sector ≡ home sector) → IsProperImage sectors after

-- It opens to the tree that the other one opens to, or for the same reason to none, and where that one is proper, so is it.
pub record OpensAlike (sectors : ℕ) (before image : Image) : Type 0 where
  pub tree : opens sectors image ≡ opens sectors before
  pub proper : IsProperImage sectors before → IsProperImage sectors image

-- At each moment, both ends included, a crash leaves only images that open to the tree that the disk read at first, and that
-- are proper where that was.
abbrev pub KeepsTree : Bool → ℕ → Moments → Moments → Type 0
KeepsTree keeps sectors old new = LeavesOnly keeps (OpensAlike sectors (reads old)) old new

-- This superblock may follow: it is in use and has the same geometry, and each sector of the journal is of an earlier epoch.
pub record MayFollow (image : Image) (v : Volume) (new : Super) : Type 0 where
  pub geometry : geometry_of new ≡ v.geometry
  pub earlier : (sector : ℕ) → IsOfJournal v.geometry sector → epoch_in (image sector) < new.epoch
  pub in_use : new.clean ≡ false

-- It followed: all that was committed is home.
pub record HasBegun (sectors : ℕ) (v : Volume) (new : Super) (image : Image) : Type 0 where
  pub home : IsAtHome sectors new image
  pub same : (sector : ℕ) → sector ≢ 0 → image sector ≡ v.image sector

-- The image is in use and may be marked clean by these marks: they are those of the used blocks, and the commit numbers are
-- behind.
pub record MayClose (sectors : ℕ) (superblock : Super) (image : Image) (g : Geometry) (marks : List Bool) : Type 0 where
  pub home : IsAtHome sectors superblock image
  pub in_use : superblock.clean ≡ false
  pub geometry : g ≡ geometry_of superblock
  pub taken : AreTaken (geometry_of superblock) (sound_nodes (geometry_of superblock) image) marks
  pub numbers : (inode : ℕ) → IsInode (geometry_of superblock) inode → (form_at (geometry_of superblock) image inode).number < superblock.next

-- It is clean and proper, and the same from the inode table on.
pub record HasClosed (sectors : ℕ) (superblock : Super) (before after : Image) : Type 0 where
  pub home : IsAtHome sectors (record superblock { clean = true }) after
  pub proper : IsProperImage sectors after
  pub same : (sector : ℕ) → SECTORS_PER_BLOCK * first_of_inodes (geometry_of superblock) ≤ sector → after sector ≡ before sector

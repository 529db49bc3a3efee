-- Which images stand for a tree, and which are proper, by their catalogs.
use Rattle.std.specs.Prelude.{ℕ, ◌≡◌, ◌≢◌, ◌<◌, ◌*◌, IsTrue, Ok}
use Rattle.ufs_base.specs.Images.{Image}
use Rattle.ufs_layout.specs.Areas.{bitmap_blocks}
use Rattle.ufs_image.specs.Images.{form_at}
use Rattle.ufs_image.specs.Journal.{epoch_in}
use Rattle.ufs_image.specs.Damage.{is_marked}
use Rattle.ufs_image.specs.Volume.{Volume, volume}
use Rattle.ufs_image.specs.Catalog.{Catalog, IsInode, IsCatalogOf}
use Rattle.ufs_image.specs.Sound.{IsSoundCatalog}
use Rattle.ufs_image.specs.Agree.{IsOfJournal}
use Rattle.ufs_image.specs.Changes.{IsTakenBlock}
use Rattle.ufs_layout.specs.declared.geometry.TheConstants.{BLOCK_BITS}
use Rattle.ufs_layout.specs.declared.geometry.Geometry.{Geometry}

-- The image is taken, its folded sectors have this catalog, and that is sound.
pub record IsVolumeOf (sectors : ℕ) (image : Image) (v : Volume) (c : Catalog) : Type 0 where
  pub taken : volume sectors image ≡ Ok v
  pub catalog : IsCatalogOf v.geometry v.image c
  pub sound : IsSoundCatalog v.geometry c

-- The bitmap marks the blocks that are taken, and no other.
pub record MarksTaken (g : Geometry) (image : Image) (c : Catalog) : Type 0 where
  pub marked : (block : ℕ) → block < BLOCK_BITS * bitmap_blocks g → IsTrue (is_marked image block) → IsTakenBlock g c block
  pub taken : (block : ℕ) → block < BLOCK_BITS * bitmap_blocks g → IsTakenBlock g c block → IsTrue (is_marked image block)

-- what a clean image has beside a sound catalog
pub record IsClosed (image : Image) (v : Volume) (c : Catalog) : Type 0 where
  pub no_entry : (sector : ℕ) → IsOfJournal v.geometry sector → epoch_in (image sector) ≢ v.superblock.epoch
  pub numbers : (inode : ℕ) → IsInode v.geometry inode → (form_at v.geometry image inode).number < v.superblock.next
  pub bits : MarksTaken v.geometry v.image c

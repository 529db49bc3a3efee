-- Images in which all that is committed is home, and what they become.
use Rattle.std.proofs.Common.{◌≡◌, ℕ, ◌<◌, ◌≤◌, List, true, false, Some, ap, sym, ◌∙◌, subst, arith}
use Rattle.std.specs.Prelude.{Ok}
use Rattle.std.specs.List.{slice_get}
use Rattle.ufs_base.specs.Images.{Image}
use Rattle.ufs_disk.specs.Disk.{put}
use Rattle.ufs_disk.proofs.Images.{put_other}
use Rattle.ufs_layout.specs.Areas.{IsGeometry, sector_count, sector_of_inode, first_of_data}
use Rattle.ufs_layout.specs.Superblock.{geometry_of, super_of}
use Rattle.ufs_layout.specs.declared.geometry.Geometry.{Geometry}
use Rattle.ufs_layout.specs.declared.superblock.Super.{Super}
use Rattle.ufs_image.specs.Agree.{IsOfJournal}
use Rattle.ufs_image.specs.Catalog.{Catalog, IsInode, IsCatalogOf, catalog_at}
use Rattle.ufs_image.specs.Journal.{epoch_in}
use Rattle.ufs_image.specs.Nodes.{blocks_of}
use Rattle.ufs_image.specs.Opens.{opens}
use Rattle.ufs_image.specs.Proper.{IsProperImage}
use Rattle.ufs_image.specs.Sound.{IsSoundCatalog}
use Rattle.ufs_image.specs.Standing.{IsVolumeOf}
use Rattle.ufs_image.specs.Volume.{Volume, volume, superblock_of, superblock_refusal}
use Rattle.ufs_image.proofs.Blocks.{catalog_same}
use Rattle.ufs_image.proofs.Holders.{block_in_data}
use Rattle.ufs_image.proofs.Journals.{taken}
use Rattle.ufs_image.proofs.Listed.{in_at_place}
use Rattle.ufs_image.proofs.OneTree.{one_tree}
use Rattle.ufs_image.proofs.Proper.{proper}
use Rattle.ufs_image.proofs.Opening.{has_geometry}
use Rattle.ufs_image.proofs.Read.{catalog_there}
use Rattle.ufs_image.proofs.Whole.{sound_whole, whole_sound, whole_read, spelled_all}
use Rattle.ufs_recovery.specs.Home.{IsAtHome}
use Rattle.ufs_recovery.proofs.Epochs.{taken_as_is}
use Rattle.ufs_recovery.proofs.NewSuperblock.{new_superblock, new_good}

-- The catalog that is read off the image is sound, where some catalog of it is.
pub canonical : (sectors : ℕ) (image : Image) (v : Volume) (c : Catalog) → IsVolumeOf sectors image v c → IsVolumeOf sectors image v (catalog_at v.geometry v.image)
canonical sectors image v c is =
    let none = sound_whole v.geometry v.image c is.catalog is.sound in
    let there = catalog_there v.geometry v.image (whole_read v.geometry v.image none) (spelled_all v.geometry v.image none) in
    let least = (has_geometry sectors image v is.taken).0.least_inodes in
    let some : 1 ≤ v.geometry.inodes = omega (arith, least) in
    record { taken = is.taken; catalog = there; sound = whole_sound v.geometry v.image (catalog_at v.geometry v.image) there some none }

-- the blocks of a sound catalog lie in the data area
pub block_low : (g : Geometry) (c : Catalog) → IsSoundCatalog g c → (k p b : ℕ) → IsInode g k → slice_get (blocks_of (c.forms k)) p ≡ Some b → first_of_data g ≤ b
block_low g c sound k p b ranged at = (block_in_data g (c.forms k).extents b (sound.in_data k ranged) (in_at_place b (blocks_of (c.forms k)) p at)).0

module _ (sectors : ℕ) (superblock : Super) (image : Image) (is : IsAtHome sectors superblock image) where
  abbrev g : Geometry
  g = geometry_of superblock

  pub is_geometry : IsGeometry (geometry_of superblock) × (sector_count (geometry_of superblock) ≤ sectors)
  is_geometry = has_geometry sectors image (record { superblock = superblock; geometry = geometry_of superblock; image = image }) is.is.taken

  pub has_superblock : superblock_of image ≡ superblock
  has_superblock = ap (λ (u : Volume). u.superblock) (sym (taken sectors image (record { superblock = superblock; geometry = geometry_of superblock; image = image }) is.is.taken).same)

  -- The superblock and the journal stand, and another sound catalog is spelled.
  module _ (mix : Image) (first : mix 0 ≡ image 0) (journal : (sector : ℕ) → IsOfJournal (geometry_of superblock) sector → mix sector ≡ image sector) where
    mix_earlier : (sector : ℕ) → IsOfJournal (geometry_of superblock) sector → epoch_in (mix sector) < superblock.epoch
    mix_earlier sector of = subst (λ bytes. epoch_in bytes < superblock.epoch) (sym (journal sector of)) (is.earlier sector of)

    mix_taken : volume sectors mix ≡ Ok (record { superblock = superblock; geometry = geometry_of superblock; image = mix })
    mix_taken = taken_as_is sectors superblock mix
        (ap (λ b. superblock_refusal sectors (λ _. b)) first ∙ (taken sectors image (record { superblock = superblock; geometry = geometry_of superblock; image = image }) is.is.taken).superblock)
        (ap (λ b. superblock_of (λ _. b)) first ∙ has_superblock)
        (λ sector of same. let less = mix_earlier sector of in omega (arith, less, same))

    pub stays_home : (d : Catalog) → IsCatalogOf (geometry_of superblock) mix d → IsSoundCatalog (geometry_of superblock) d → IsAtHome sectors superblock mix
    stays_home d spelled sound = record {
      is = canonical sectors mix (record { superblock = superblock; geometry = geometry_of superblock; image = mix }) d (record { taken = mix_taken; catalog = spelled; sound = sound });
      earlier = mix_earlier;
    }

-- An image at home that is in use is proper.
pub home_proper : (sectors : ℕ) (superblock : Super) (image : Image) → IsAtHome sectors superblock image → superblock.clean ≡ false → IsProperImage sectors image
home_proper sectors superblock image home in_use =
    proper sectors image (record { superblock = superblock; geometry = geometry_of superblock; image = image }) (catalog_at (geometry_of superblock) image) home.is
    (λ s of. let less = home.earlier s of in omega (arith, less))
    (λ clean. let no : false ≡ true = sym in_use ∙ clean in absurd (grind (arith, no)))

-- ---- another superblock

module _ (sectors : ℕ) (image : Image) (v : Volume) (c : Catalog) (is : IsVolumeOf sectors image v c) (home : Image) (all : (sector : ℕ) → home sector ≡ v.image sector)
    (new : Super) (bytes : List ℕ) (spelled : super_of 1 bytes ≡ Some new) (kept : geometry_of new ≡ v.geometry)
    (earlier : (sector : ℕ) → IsOfJournal v.geometry sector → epoch_in (home sector) < new.epoch) where
  abbrev after : Image
  after = put 0 bytes home

  behind : (sector : ℕ) → 0 < sector → v.image sector ≡ after sector
  behind sector past = sym (all sector) ∙ sym (put_other 0 sector bytes home (λ same. omega (arith, past, same)))

  after_earlier : (sector : ℕ) → IsOfJournal (geometry_of new) sector → epoch_in (after sector) < new.epoch
  after_earlier sector of =
      let from = of.from in
      let other : after sector ≡ home sector = put_other 0 sector bytes home (λ same. omega (arith, from, same)) in
      subst (λ bytes. epoch_in bytes < new.epoch) (sym other) (earlier sector (subst (λ g. IsOfJournal g sector) kept of))

  after_taken : volume sectors after ≡ Ok (record { superblock = new; geometry = geometry_of new; image = after })
  after_taken = taken_as_is sectors new after (new_good sectors image v is.taken new bytes spelled kept home) (new_superblock sectors image v is.taken new bytes spelled kept home)
      (λ sector of same. let less = after_earlier sector of in omega (arith, less, same))

  after_catalog : IsCatalogOf v.geometry after c
  after_catalog = catalog_same v.geometry v.image after c is.catalog
      (λ k ranged. behind (sector_of_inode v.geometry k) (omega arith))
      (λ s of. let low = block_low v.geometry c is.sound of.dir_block.inode of.dir_block.place of.block of.dir_block.has.in_range of.dir_block.has.there in let at = of.of_block.same in behind s (omega (arith, low, at)))

  after_is : IsVolumeOf sectors after (record { superblock = new; geometry = geometry_of new; image = after }) c
  after_is = record {
    taken = after_taken;
    catalog = subst (λ g. IsCatalogOf g after c) (sym kept) after_catalog;
    sound = subst (λ g. IsSoundCatalog g c) (sym kept) is.sound;
  }

  pub superblock_put_home : IsAtHome sectors new (put 0 bytes home)
  superblock_put_home = record { is = canonical sectors after (record { superblock = new; geometry = geometry_of new; image = after }) c after_is; earlier = after_earlier }

  pub superblock_put_tree : opens sectors (put 0 bytes home) ≡ opens sectors image
  superblock_put_tree = one_tree sectors image after v (record { superblock = new; geometry = geometry_of new; image = after }) c is after_is kept
      (λ k ranged s of. let low = block_low v.geometry c is.sound k of.place of.block ranged of.there in let at = of.of_block.same in behind s (omega (arith, low, at)))

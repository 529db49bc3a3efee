-- The bitmap is written, and the image is marked clean.
use Rattle.std.proofs.Common.{◌≡◌, ℕ, ◌*◌, ◌<◌, inl, inr, List, Bool, false, sym, refl, ◌∙◌, subst, arith}
use Rattle.ufs_base.specs.Images.{Image}
use Rattle.ufs_disk.specs.Disk.{State, IsSettled, seen}
use Rattle.ufs_layout.specs.Areas.{bitmap_blocks, sector_of_inode}
use Rattle.ufs_layout.specs.Superblock.{geometry_of}
use Rattle.ufs_layout.specs.declared.superblock.Super.{Super}
use Rattle.ufs_damage.specs.Taken.{AreTaken}
use Rattle.ufs_image.specs.Catalog.{IsInode, IsCatalogOf, catalog_at}
use Rattle.ufs_image.specs.Images.{form_at}
use Rattle.ufs_image.specs.Nodes.{sound_nodes}
use Rattle.ufs_image.specs.Opens.{opens}
use Rattle.ufs_image.specs.Proper.{IsProperImage}
use Rattle.ufs_image.proofs.Bits.{taken_is, is_taken_block}
use Rattle.ufs_image.proofs.Blocks.{catalog_same}
use Rattle.ufs_image.proofs.OneTree.{one_tree}
use Rattle.ufs_image.proofs.Proper.{proper}
use Rattle.ufs_recovery.specs.Home.{IsAtHome, OpensAlike}
use Rattle.ufs_recovery.specs.Marks.{AgreeOffBitmap, HasAnyBitmap, IsMarkedBelow}
use Rattle.ufs_recovery.proofs.Home.{stays_home, block_low, home_proper}

module _ (sectors : ℕ) (superblock : Super) (image : Image) (home : IsAtHome sectors superblock image) (mix : Image) (agree : AgreeOffBitmap (geometry_of superblock) image mix) where
  same_catalog : IsCatalogOf (geometry_of superblock) mix (catalog_at (geometry_of superblock) image)
  same_catalog = catalog_same (geometry_of superblock) image mix (catalog_at (geometry_of superblock) image) home.is.catalog
      (λ k ranged. sym (agree (sector_of_inode (geometry_of superblock) k) (inr (omega arith))))
      (λ s of.
      let low = block_low (geometry_of superblock) (catalog_at (geometry_of superblock) image) home.is.sound of.dir_block.inode of.dir_block.place of.block of.dir_block.has.in_range of.dir_block.has.there in
      let at = of.of_block.same in sym (agree s (inr (omega (arith, low, at)))))

  pub bitmap_home : IsAtHome sectors superblock mix
  bitmap_home = stays_home sectors superblock image home mix (agree 0 (inl (omega arith))) (λ s of. let from = of.from in agree s (inr (omega (arith, from)))) (catalog_at (geometry_of superblock) image) same_catalog home.is.sound

  pub bitmap_tree : opens sectors mix ≡ opens sectors image
  bitmap_tree = one_tree sectors image mix (record { superblock = superblock; geometry = geometry_of superblock; image = image }) (record { superblock = superblock; geometry = geometry_of superblock; image = mix }) (catalog_at (geometry_of superblock) image)
      home.is (record { taken = bitmap_home.is.taken; catalog = same_catalog; sound = home.is.sound }) refl
      (λ k ranged s of.
      let low = block_low (geometry_of superblock) (catalog_at (geometry_of superblock) image) home.is.sound k of.place of.block ranged of.there in
      let at = of.of_block.same in sym (agree s (inr (omega (arith, low, at)))))

-- Whatever stands in the bitmap of an image in use, a crash leaves the tree.
pub any_bitmap_tree : (sectors : ℕ) (superblock : Super) (state : State) → IsSettled state → IsAtHome sectors superblock (seen state) → superblock.clean ≡ false → (image : Image) → HasAnyBitmap (geometry_of superblock) state image
    → OpensAlike sectors (seen state) image
any_bitmap_tree sectors superblock state settled home in_use image from =
    let agree = subst (λ (d : Image). AgreeOffBitmap (geometry_of superblock) d image) (settled from.before from.left) from.agrees in
    record {
      tree = bitmap_tree sectors superblock (seen state) home image agree;
      proper = λ was. home_proper sectors superblock image (bitmap_home sectors superblock (seen state) home image agree) in_use;
    }

-- A clean image at home whose bitmap marks the used blocks, with its numbers behind, is proper.
pub closed_proper : (sectors : ℕ) (superblock : Super) (image : Image) (marks : List Bool) → IsAtHome sectors superblock image
    → IsMarkedBelow marks (32768 * bitmap_blocks (geometry_of superblock)) image → AreTaken (geometry_of superblock) (sound_nodes (geometry_of superblock) image) marks
    → ((k : ℕ) → IsInode (geometry_of superblock) k → (form_at (geometry_of superblock) image k).number < superblock.next) → IsProperImage sectors image
closed_proper sectors superblock image marks home marked taken numbers =
    proper sectors image (record { superblock = superblock; geometry = geometry_of superblock; image = image }) (catalog_at (geometry_of superblock) image) home.is
    (λ s of. let less = home.earlier s of in omega (arith, less))
    (λ clean. record {
      no_entry = λ s of same. let less = home.earlier s of in omega (arith, less, same);
      numbers = numbers;
      bits = record {
        marked = λ b under is. taken_is (geometry_of superblock) image (catalog_at (geometry_of superblock) image) home.is.catalog home.is.sound b (taken b ∙ sym (marked b under) ∙ is);
        taken = λ b under is. marked b under ∙ sym (taken b) ∙ is_taken_block (geometry_of superblock) image (catalog_at (geometry_of superblock) image) home.is.catalog home.is.sound b is;
      };
    })

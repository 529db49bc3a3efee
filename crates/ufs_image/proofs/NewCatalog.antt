-- A new image has the catalog of the root alone, and that is sound.
use Rattle.std.proofs.Common.{ℕ, ◌≡◌, ◌≢◌, ◌<◌, ◌≤◌, [], Bool, true, false, Some, refl, sym, ap, ◌∙◌, arith}
use Rattle.std.specs.Prelude.{◌==◌, if◌then◌else◌}
use Rattle.std.specs.List.{slice_get}
use Rattle.std.proofs.lemmas.Bool.Decides.{nat_tests}
use Rattle.ufs_base.specs.Images.{Image}
use Rattle.ufs_layout.specs.Areas.{IsGeometry, sector_count}
use Rattle.ufs_layout.specs.InodeForm.{free_inode}
use Rattle.ufs_layout.specs.declared.geometry.Geometry.{Geometry}
use Rattle.ufs_image.specs.Images.{inode_at}
use Rattle.ufs_image.specs.Nodes.{blocks_of}
use Rattle.ufs_image.specs.Formatted.{IsFormatted, new_root, new_volume, new_form, new_catalog}
use Rattle.ufs_image.specs.Catalog.{IsInode, IsDirBlock, IsCatalogOf}
use Rattle.ufs_image.specs.Standing.{IsVolumeOf}
use Rattle.ufs_image.proofs.NewImage.{volume_new, root_there, free_there, no_bad_tree}
use Rattle.ufs_image.proofs.Blamed.{undamaged}
use Rattle.ufs_image.proofs.Whole.{whole_sound}

no_blocks : (b : Bool) → blocks_of (if b then new_root else free_inode 0) ≡ []
no_blocks true = refl
no_blocks false = refl

no_dir_block : (g : Geometry) (block : ℕ) → IsDirBlock g new_catalog block → ⊥
no_dir_block g block is = let none = ap (λ bs. slice_get bs is.place) (sym (no_blocks (is.inode == 1))) ∙ is.has.there in cc

new_forms : (g : Geometry) (image : Image) → IsFormatted g image → (inode : ℕ) → IsInode g inode → inode_at g image inode ≡ Some (new_form inode)
new_forms g image new inode in_range = by (inode == 1) refl
  where
    by : (b : Bool) → (inode == 1) ≡ b → inode_at g image inode ≡ Some (new_form inode)
    by true e =
        let same : inode ≡ 1 = grind (arith, nat_tests, e) in
        ap (inode_at g image) same ∙ root_there g image new ∙ ap (λ k. Some (new_form k)) (sym same)
    by false e =
        let from = in_range.from_one in
        let other : inode ≢ 1 = λ same. let no : true ≡ false = ap (λ k. k == 1) (sym same) ∙ e in cc in
        let above : 1 < inode = grind (arith, from, other) in
        free_there g image new inode above in_range.within ∙ ap (λ b. Some (if b then new_root else free_inode 0)) (sym e)

new_catalog_of : (g : Geometry) (image : Image) → IsFormatted g image → IsCatalogOf g image new_catalog
new_catalog_of g image new = record { forms = new_forms g image new; slots = λ block is. absurd (no_dir_block g block is) }

pub new_sound : (sectors : ℕ) (g : Geometry) (image : Image) → IsGeometry g → IsFormatted g image → sector_count g ≤ sectors → IsVolumeOf sectors image (new_volume g image) new_catalog
new_sound sectors g image is new room =
    let has = new_catalog_of g image new in
    let least = is.least_inodes in
    record {
      taken = volume_new sectors g image is new room;
      catalog = has;
      sound = whole_sound g image new_catalog has (omega (arith, least)) (undamaged g image (no_bad_tree g image is new));
    }

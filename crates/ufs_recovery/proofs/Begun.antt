-- What is committed is home: the next epoch may begin.
use Rattle.std.proofs.Common.{◌≡◌, ◌≢◌, ℕ, ◌+◌, ◌*◌, ◌/◌, ◌<◌, ◌≤◌, inr, List, Bool, true, ap, sym, refl, ◌∙◌, subst, arith}
use Rattle.ufs_base.specs.Images.{Image}
use Rattle.ufs_layout.specs.Areas.{bitmap_blocks, first_of_inodes}
use Rattle.ufs_layout.specs.InodeForm.{InodeForm}
use Rattle.ufs_layout.specs.Superblock.{geometry_of}
use Rattle.ufs_layout.specs.declared.geometry.Geometry.{Geometry}
use Rattle.ufs_layout.specs.declared.superblock.Super.{Super}
use Rattle.ufs_image.specs.Catalog.{catalog_at}
use Rattle.ufs_image.specs.Damage.{is_marked}
use Rattle.ufs_image.specs.Journal.{committed, epoch_in}
use Rattle.ufs_image.specs.Nodes.{is_taken}
use Rattle.ufs_image.specs.Opens.{opens}
use Rattle.ufs_image.specs.Proper.{IsProperImage}
use Rattle.ufs_image.specs.Volume.{Volume}
use Rattle.ufs_overlay.specs.declared.overlay.Overlay.{Overlay}
use Rattle.ufs_recovery.specs.Home.{IsAtHome, IsOver, IsBroughtHome, MayFollow, MayClose, HasClosed}
use Rattle.ufs_recovery.specs.Marks.{AgreeOffBitmap, IsMarkedBelow}
use Rattle.ufs_recovery.proofs.Alike.{form_alike, nodes_alike}
use Rattle.ufs_recovery.proofs.Closing.{bitmap_home, closed_proper}
use Rattle.ufs_recovery.proofs.Home.{home_proper}
use Rattle.ufs_recovery.proofs.Homing.{journal_unfolded, volume_image}

pub brought : (sectors : ℕ) (image home : Image) (v : Volume) (overlay : Overlay) (new : Super) → IsOver sectors image v overlay → MayFollow image v new → ((sector : ℕ) → home sector ≡ v.image sector) → opens sectors home ≡ opens sectors image
    → IsBroughtHome sectors home new
brought sectors image home v overlay new over may all same = record {
  image = image;
  as_volume = v;
  catalog = catalog_at v.geometry v.image;
  is = over.is;
  all = all;
  same = same;
  geometry = may.geometry;
  proper = λ after home others. home_proper sectors new after home may.in_use;
  earlier = λ s of.
      let stays : home s ≡ image s = all s ∙ ap (λ (d : Image). d s) (volume_image sectors image v overlay over) ∙ journal_unfolded v.geometry (committed v.geometry v.superblock.epoch image) image s of in
      subst (λ b. epoch_in b < new.epoch) (sym stays) (may.earlier s of);
}

-- An image at home may get the same superblock, marked clean, where it is proper then.
pub closing : (sectors : ℕ) (superblock : Super) (image : Image) → IsAtHome sectors superblock image
    → ((after : Image) → IsAtHome sectors (record superblock { clean = true }) after → ((sector : ℕ) → sector ≢ 0 → after sector ≡ image sector) → IsProperImage sectors after) → IsBroughtHome sectors image (record superblock { clean = true })
closing sectors superblock image home proper = record {
  proper = proper;
  image = image;
  as_volume = record { superblock = superblock; geometry = geometry_of superblock; image = image };
  catalog = catalog_at (geometry_of superblock) image;
  is = home.is;
  all = λ s. refl;
  same = refl;
  geometry = refl;
  earlier = home.earlier;
}

pub mid_home : (sectors : ℕ) (superblock : Super) (before mid : Image) (g : Geometry) (marks : List Bool) → MayClose sectors superblock before g marks → AgreeOffBitmap g before mid → IsAtHome sectors superblock mid
mid_home sectors superblock before mid g marks may agree = bitmap_home sectors superblock before may.home mid (subst (λ h. AgreeOffBitmap h before mid) may.geometry agree)

module _ (sectors : ℕ) (superblock : Super) (before mid after : Image) (g : Geometry) (marks : List Bool) (may : MayClose sectors superblock before g marks)
    (agree : AgreeOffBitmap g before mid) (marked : IsMarkedBelow marks (32768 * bitmap_blocks g) mid) (others : (sector : ℕ) → sector ≢ 0 → after sector ≡ mid sector) where
  agree_by : AgreeOffBitmap (geometry_of superblock) before mid
  agree_by = subst (λ h. AgreeOffBitmap h before mid) may.geometry agree

  behind : (sector : ℕ) → 8 * first_of_inodes (geometry_of superblock) ≤ sector → after sector ≡ before sector
  behind s from = others s (λ zero. omega (arith, zero, from)) ∙ agree_by s (inr from)

  marked_after : IsMarkedBelow marks (32768 * bitmap_blocks (geometry_of superblock)) after
  marked_after b under =
      ap (λ (s : List ℕ). is_marked (λ _. s) b) (others (8 * 1 + b / 4096) (λ zero. omega (arith, zero)))
      ∙ subst (λ h. IsMarkedBelow marks (32768 * bitmap_blocks h) mid) may.geometry marked b under

  pub has_closed : IsAtHome sectors (record superblock { clean = true }) after → HasClosed sectors superblock before after
  has_closed home = record {
    home = home;
    proper = closed_proper sectors (record superblock { clean = true }) after marks home marked_after
        (λ b. ap (λ nodes. is_taken (geometry_of superblock) nodes b) (nodes_alike (geometry_of superblock) before after behind) ∙ may.taken b)
        (λ k ranged. subst (λ (f : InodeForm). f.number < superblock.next) (sym (form_alike (geometry_of superblock) before after behind k)) (may.numbers k ranged));
    same = behind;
  }

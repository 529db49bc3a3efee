-- The stages of formatting: no superblock, then the tables, then a new image.
use Rattle.std.proofs.Common.{◌≡◌, ◌≢◌, inl, inr, ⊎_elim, Bool, true, ◌||◌, ℕ, ◌+◌, ◌-◌, ◌*◌, ◌<◌, ◌≤◌, List, take, refl, sym, ◌∙◌, ap, subst, arith}
use Rattle.std.specs.Prelude.{◌==◌, not, Result, Ok, Err, OnOk}
use Rattle.std.specs.Str.{bytes_eq}
use Rattle.std.proofs.Math.Bool.{or-true}
use Rattle.ufs_base.specs.Images.{Image}
use Rattle.ufs_disk.specs.Disk.{IsImage, IsSettled, put}
use Rattle.ufs_disk.specs.Moments.{Moments, LeavesOnly, reads}
use Rattle.ufs_disk.proofs.Images.{seen_is_image, put_same, put_other}
use Rattle.ufs_disk.proofs.Runs.{weaker, goes_on}
use Rattle.ufs_layout.specs.Areas.{IsGeometry, sector_count, first_of_bitmap, first_of_journal, first_of_data, sector_of_inode}
use Rattle.ufs_base.specs.Choices.{first_of, refused_if}
use Rattle.ufs_layout.specs.Superblock.{magic, super_bytes}
use Rattle.ufs_layout.specs.InodeForm.{inode_bytes, free_inode}
use Rattle.ufs_layout.specs.Superblock.{new_super}
use Rattle.ufs_image.specs.Formatted.{IsFormatted, bitmap_below, empty_sector}
use Rattle.ufs_image.specs.Volume.{NoSuperblock, BadVersion, BadGeometry, has_other_version, superblock_of, is_off_form, bad_geometry, is_too_small, lacks_magic, by_superblock}
use Rattle.ufs_image.specs.Laws.{OpensToRoot, BeginsWhole, BeginsProper}
use Rattle.ufs_layout.specs.declared.geometry.Geometry.{Geometry}
use Rattle.ufs_recover.specs.Tables.{HasZeroTails, IsOutside, IsTableSector, HasTablesBelow}
use Rattle.ufs_recover.specs.Stopped.{IsNew, IsRefused, IsStopped, IsBlank, HasSuperblockPut}

-- ---- images

-- with zeros in the superblock's sector it is refused
pub refused : (sectors : ℕ) (image : Image) → IsBlank image → IsRefused sectors image
refused sectors image blank = ap (λ (test : Bool). by_superblock image (first_of (refused_if test NoSuperblock)
    (first_of (refused_if (has_other_version image) (BadVersion (superblock_of image).version))
    (first_of (refused_if (is_off_form image) NoSuperblock)
    (first_of (bad_geometry image)
    (refused_if (is_too_small sectors image) (BadGeometry 5))))))) lacking
  where
    lacking : lacks_magic sectors image ≡ true
    lacking = ap (λ (bytes : List ℕ). (sectors == 0) || not (bytes_eq (take 8 bytes) magic)) blank ∙ or-true (sectors == 0)

no_inode : inode_bytes (free_inode 0) ≡ empty_sector
no_inode = refl

-- with the superblock and the tables it is a new image
pub formatted : (g : Geometry) (image : Image) → IsGeometry g → image 0 ≡ super_bytes (new_super g) → HasTablesBelow g (first_of_data g) image → IsFormatted g image
formatted g image is superblock tables = record {
  superblock = superblock;
  bitmap = λ s under.
      let same : 8 * first_of_bitmap + s - 8 ≡ s = omega arith in
      (sector (8 * first_of_bitmap + s) (omega arith) (omega arith)).bitmap (omega arith) ∙ ap (bitmap_below (first_of_data g)) same;
  root = (sector (sector_of_inode g 1) (omega arith) (omega (arith, is.least_inodes))).root (omega arith);
  free = λ inode above within. (sector (sector_of_inode g inode) (omega arith) (omega arith)).rest (omega arith) ∙ sym no_inode;
  journal = λ s under. (sector (8 * first_of_journal g + s) (omega arith) (omega arith)).rest (omega (arith, is.least_inodes));
}
  where
    sector : (s : ℕ) → 8 ≤ s → s < 8 * first_of_data g → IsTableSector g s (image s)
    sector s from under = tables.sectors s from under

zero_tails : (g : Geometry) (image : Image) → IsGeometry g → HasTablesBelow g (first_of_data g) image → HasZeroTails g image
zero_tails g image is tables = record {
  inodes = λ s behind before. (tables.sectors s (omega arith) (omega arith)).rest (omega (arith, is.least_inodes));
  journal = λ s behind before. (tables.sectors s (omega arith) before).rest (omega (arith, is.least_inodes));
}

-- the tables, where the superblock's sector was put
tables_stay : (g : Geometry) (block : ℕ) (bytes : List ℕ) (d : Image) → HasTablesBelow g block d → HasTablesBelow g block (put 0 bytes d)
tables_stay g block bytes d tables = record {
  sectors = λ s from under. subst (IsTableSector g s) (sym (put_other 0 s bytes d (λ zero. absurd (omega arith)))) (tables.sectors s from under);
}

module _ (g : Geometry) (sectors : ℕ) (is : IsGeometry g) (room : sector_count g ≤ sectors) (opens : OpensToRoot g) (whole : BeginsWhole g) (proper : BeginsProper g) where
  new_image : (image : Image) → IsFormatted g image → HasTablesBelow g (first_of_data g) image → IsNew g sectors image
  new_image image new tables = record {
    formatted = new;
    tails = zero_tails g image is tables;
    root_alone = opens sectors image new room;
    undamaged = whole sectors image new room;
    proper = proper sectors image new room;
  }

  -- the superblock is put where the tables are
  pub put_new : (bytes : List ℕ) (d : Image) → bytes ≡ super_bytes (new_super g) → HasTablesBelow g (first_of_data g) d → IsNew g sectors (put 0 bytes d)
  put_new bytes d superblock tables =
      let there : HasTablesBelow g (first_of_data g) (put 0 bytes d) = tables_stay g (first_of_data g) bytes d tables in
      new_image (put 0 bytes d) (formatted g (put 0 bytes d) is (put_same 0 bytes d ∙ superblock) there) there

-- ---- moments

pub on_ok_both : {T E : Type 0} (P Q : Type 0) (r : Result T E) → OnOk r P → OnOk r Q → OnOk r (P × Q)
on_ok_both P Q (Ok x) p q = (p, q)
on_ok_both P Q (Err e) p q = tt

module _ (keeps : Bool) (g : Geometry) (sectors : ℕ) (first : Moments) where
  -- the superblock is taken out
  pub taken_out : (new : Moments) → LeavesOnly keeps (HasSuperblockPut empty_sector first.state) first new → LeavesOnly keeps (IsStopped g sectors first.state) first new
  taken_out new call = weaker keeps (HasSuperblockPut empty_sector first.state) (IsStopped g sectors first.state) (λ image from. ⊎_elim
      (λ same. inl (subst (IsImage first.state) (sym same) from.left))
      (λ same. inr (inl (refused sectors image (ap (λ (e : Image). e 0) same ∙ put_same 0 empty_sector from.before))))
      from.is) first new call

  -- while it is out
  pub while_blank : (old new : Moments) → LeavesOnly keeps (IsStopped g sectors first.state) first old → LeavesOnly keeps IsBlank old new → LeavesOnly keeps (IsStopped g sectors first.state) first new
  while_blank old new so_far call = goes_on keeps (IsStopped g sectors first.state) IsBlank first old new so_far call (λ image blank. inr (inl (refused sectors image blank)))

  -- the new one is put in
  pub put_in : (bytes : List ℕ) (old new : Moments) → LeavesOnly keeps (IsStopped g sectors first.state) first old → LeavesOnly keeps (HasSuperblockPut bytes old.state) old new
      → IsSettled old.state → IsBlank (reads old) → IsNew g sectors (put 0 bytes (reads old)) → LeavesOnly keeps (IsStopped g sectors first.state) first new
  put_in bytes old new so_far call settled blank new_one = goes_on keeps (IsStopped g sectors first.state) (HasSuperblockPut bytes old.state) first old new so_far call (λ image from. ⊎_elim
      (λ same. inr (inl (refused sectors image (ap (λ (e : Image). e 0) (same ∙ settled from.before from.left) ∙ blank))))
      (λ same. inr (inr (subst (IsNew g sectors) (sym (same ∙ ap (put 0 bytes) (settled from.before from.left))) new_one)))
      from.is)

-- as the disk reads
pub blank_read : (keeps : Bool) (first old : Moments) → LeavesOnly keeps IsBlank first old → IsBlank (reads old)
blank_read keeps first old run = run.after (reads old) (seen_is_image old.state)

-- a sector outside is not the superblock's
pub outside_superblock : (g : Geometry) (s : ℕ) → IsOutside g s → s ≢ 0
outside_superblock g s outside zero = ⊎_elim (λ near. omega arith) (λ far. omega arith) outside

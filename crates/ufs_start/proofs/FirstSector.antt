-- A superblock is taken or refused by the first sector.
use Rattle.std.proofs.Common.{◌≡◌, ℕ, ◌<◌, ◌≤◌, List, true, false, Option, Some, None, min, take, refl, ap, sym, ◌∙◌, arith}
use Rattle.std.specs.Prelude.{◌==◌, ◌&&◌, ◌||◌, not, nat_le, is_none, IsTrue}
use Rattle.std.specs.Option.{option_map}
use Rattle.std.specs.Str.{bytes_eq}
use Rattle.std.proofs.lemmas.Bool.{and_parts}
use Rattle.std.proofs.lemmas.Bool.Decides.{nat_tests}
use Rattle.ufs_base.specs.Choices.{first_of, refused_if}
use Rattle.ufs_base.specs.Images.{Image}
use Rattle.ufs_image.specs.Volume.{BadGeometry, BadVersion, NoSuperblock, Refusal, bad_geometry, has_other_version, is_off_form, is_too_small, lacks_magic, superblock_of, superblock_refusal}
use Rattle.ufs_layout.specs.Areas.{geometry_refusal, refusal_number, sector_count}
use Rattle.ufs_layout.specs.Superblock.{geometry_of, is_super, magic, super_bytes, super_fields, super_of}
use Rattle.ufs_layout.specs.declared.geometry.BadGeometry.{BadGeometry as Bad}
use Rattle.ufs_layout.specs.declared.superblock.Super.{Super}
use Rattle.ufs_layout.proofs.Spelled.{some_if-some}
use Rattle.ufs_start.specs.Copies.{sectors_taken, taken_by}

abbrev pub IsRefused : Option Refusal → Type 0
IsRefused found = (refusal : Refusal) × (found ≡ Some refusal)

later : (before found : Option Refusal) → IsRefused found → IsRefused (first_of before found)
later None found is = is
later (Some refusal) found is = (refusal, refl)

begins : (s : Super) → bytes_eq (take 8 (super_bytes s)) magic ≡ true
begins s = refl

pub fields_are : (bytes : List ℕ) (s : Super) → super_of 1 bytes ≡ Some s → s ≡ super_fields bytes
fields_are bytes s is = sym (some_if-some _ (super_fields bytes) s is).1

module _ (sectors : ℕ) (image : Image) where
  -- ---- refused

  pub off_refused : super_of 1 (image 0) ≡ None → IsRefused (superblock_refusal sectors image)
  off_refused none =
      later (refused_if (lacks_magic sectors image) NoSuperblock) _
      (later (refused_if (has_other_version image) (BadVersion (superblock_of image).version)) _
      (NoSuperblock, ap (λ (o : Option Super). first_of (refused_if (is_none o) NoSuperblock) (first_of (bad_geometry image) (refused_if (is_too_small sectors image) (BadGeometry 5)))) none))

  by_size : IsRefused (first_of (bad_geometry image) (refused_if (is_too_small sectors image) (BadGeometry 5))) → IsRefused (superblock_refusal sectors image)
  by_size is =
      later (refused_if (lacks_magic sectors image) NoSuperblock) _
      (later (refused_if (has_other_version image) (BadVersion (superblock_of image).version)) _
      (later (refused_if (is_off_form image) NoSuperblock) _ is))

  pub bad_refused : (bad : Bad) → geometry_refusal (geometry_of (superblock_of image)) ≡ Some bad → IsRefused (superblock_refusal sectors image)
  bad_refused bad e =
      by_size (BadGeometry (refusal_number bad), ap (λ (o : Option Bad). first_of (option_map (λ b. BadGeometry (refusal_number b)) o) (refused_if (is_too_small sectors image) (BadGeometry 5))) e)

  pub small_refused : sectors < sector_count (geometry_of (superblock_of image)) → IsRefused (superblock_refusal sectors image)
  small_refused less =
      let small : is_too_small sectors image ≡ true = grind (arith, nat_tests, less) in
      by_size (later (bad_geometry image) (refused_if (is_too_small sectors image) (BadGeometry 5)) (BadGeometry 5, ap (λ b. refused_if b (BadGeometry 5)) small))

  -- ---- taken

  pub is_taken : (s : Super) → super_of 1 (image 0) ≡ Some s → image 0 ≡ super_bytes s → IsTrue (is_super 1 s) → 0 < sectors → geometry_refusal (geometry_of (superblock_of image)) ≡ None
      → sector_count (geometry_of (superblock_of image)) ≤ sectors → superblock_refusal sectors image ≡ None
  is_taken s found spelled form some good room =
      let empty : (sectors == 0) ≡ false = grind (arith, nat_tests, some) in
      let marked : bytes_eq (take 8 (image 0)) magic ≡ true = ap (λ bytes. bytes_eq (take 8 bytes) magic) spelled ∙ begins s in
      let version : ((superblock_of image).version == 1) ≡ true = ap (λ (x : Super). x.version == 1) (sym (fields_are (image 0) s found)) ∙ (and_parts (s.version == 1) (nat_le 1 s.epoch && nat_le 1 s.next) form).0 in
      let small : is_too_small sectors image ≡ false = grind (arith, nat_tests, room) in
      λ i. first_of (refused_if (empty i || not (marked i)) NoSuperblock)
      (first_of (refused_if (not (version i)) (BadVersion (superblock_of image).version))
      (first_of (refused_if (is_none (found i)) NoSuperblock)
      (first_of (option_map (λ b. BadGeometry (refusal_number b)) (good i))
      (refused_if (small i) (BadGeometry 5)))))

-- ---- how many sectors a copy has

pub refused_count : (sectors size first : ℕ) (read whole : Image) → sectors ≡ size → whole 0 ≡ read 0 → IsRefused (superblock_refusal sectors read) → first ≡ min 8 sectors → first ≡ sectors_taken size whole
refused_count sectors size first read whole sized same is counted =
    counted
    ∙ sym (ap (λ (o : Option Refusal). taken_by o sectors (sector_count (geometry_of (superblock_of read)))) is.1)
    ∙ (λ i. sectors_taken (sized i) (λ _. sym same i))

pub own_count : (sectors size own : ℕ) (read whole : Image) → sectors ≡ size → whole 0 ≡ read 0 → superblock_refusal sectors read ≡ None → own ≡ sector_count (geometry_of (superblock_of read))
    → own ≡ sectors_taken size whole
own_count sectors size own read whole sized same none counted =
    counted
    ∙ sym (ap (λ (o : Option Refusal). taken_by o sectors (sector_count (geometry_of (superblock_of read)))) none)
    ∙ (λ i. sectors_taken (sized i) (λ _. sym same i))

-- A copy's superblock is refused as the image's.
use Rattle.std.proofs.Common.{◌≡◌, ℕ, ◌<◌, ◌≤◌, inl, inr, Bool, true, false, Option, Some, None, min, ap, sym, refl, ◌∙◌, arith}
use Rattle.std.specs.Prelude.{◌==◌, ◌||◌, not, nat_lt, Result, Ok, Err}
use Rattle.std.specs.Str.{bytes_eq}
use Rattle.std.specs.Prelude.{take}
use Rattle.std.proofs.lemmas.Bool.{cases_lt}
use Rattle.std.proofs.lemmas.Bool.Decides.{nat_tests}
use Rattle.ufs_base.specs.Choices.{first_of, refused_if}
use Rattle.ufs_base.specs.Images.{Image}
use Rattle.ufs_image.specs.Volume.{BadGeometry, BadRecord, BadTree, BadVersion, NoSuperblock, Refusal, Volume, volume, bad_geometry, has_other_version, is_off_form, is_too_small, lacks_magic, superblock_of, superblock_refusal}
use Rattle.ufs_image.proofs.Journals.{first_metadata}
use Rattle.ufs_image.proofs.Opening.{is_geometry, no_map, not_refused, second_none}
use Rattle.ufs_layout.specs.Areas.{IsGeometry, geometry_refusal, refusal_number, sector_count}
use Rattle.ufs_layout.specs.Superblock.{geometry_of, magic}
use Rattle.ufs_layout.specs.declared.geometry.Geometry.{Geometry}
use Rattle.ufs_start.specs.Copies.{IsCopyOf, IsUsedBy, taken_by}

-- an earlier refusal stays, whatever the last one is
stays : {X : Type 0} (a b c d last : Option X) (x : X) → first_of a (first_of b (first_of c (first_of d None))) ≡ Some x → first_of a (first_of b (first_of c (first_of d last))) ≡ Some x
stays (Some w) b c d last x e = e
stays None (Some w) c d last x e = e
stays None None (Some w) d last x e = e
stays None None None (Some w) last x e = e
stays None None None None last x e = let no = e in cc

-- the number of sectors counts only against none, and against those of the geometry
abbrev refusal_by : Image → Bool → Bool → Option Refusal
refusal_by image empty small =
    first_of (refused_if (empty || not (bytes_eq (take 8 (image 0)) magic)) NoSuperblock)
    (first_of (refused_if (has_other_version image) (BadVersion (superblock_of image).version))
    (first_of (refused_if (is_off_form image) NoSuperblock)
    (first_of (bad_geometry image)
    (refused_if small (BadGeometry 5)))))

-- what a geometry that is taken asks
pub record IsTakenHere (sectors : ℕ) (image : Image) : Type 0 where
  pub geometry : IsGeometry (geometry_of (superblock_of image))
  pub room : sector_count (geometry_of (superblock_of image)) ≤ sectors

pub taken_here : (sectors : ℕ) (image : Image) → superblock_refusal sectors image ≡ None → IsTakenHere sectors image
taken_here sectors image is =
    let one = second_none (refused_if (lacks_magic sectors image) NoSuperblock) _ is in
    let two = second_none (refused_if (has_other_version image) (BadVersion (superblock_of image).version)) _ one.1 in
    let three = second_none (refused_if (is_off_form image) NoSuperblock) _ two.1 in
    let four = second_none (bad_geometry image) _ three.1 in
    let small = not_refused (is_too_small sectors image) (BadGeometry 5) four.1 in
    record {
      geometry = is_geometry (geometry_of (superblock_of image)) (no_map (λ bad. BadGeometry (refusal_number bad)) (geometry_refusal (geometry_of (superblock_of image))) four.0);
      room = grind (arith, nat_tests, small);
    }

-- the first sector is used in any case
pub first_used : (g : Geometry) (r : Result Volume Refusal) → IsUsedBy g r 0
first_used g (Ok v) = inl (first_metadata g)
first_used g (Err NoSuperblock) = omega arith
first_used g (Err (BadVersion version)) = omega arith
first_used g (Err (BadGeometry number)) = omega arith
first_used g (Err (BadRecord bad)) = first_metadata g
first_used g (Err (BadTree inode)) = omega arith

module _ (copied sectors : ℕ) (copy image : Image) (is : IsCopyOf copied copy sectors image) where
  taken_is : (r : Option Refusal) → superblock_refusal sectors copy ≡ r → copied ≡ taken_by r sectors (sector_count (geometry_of (superblock_of copy)))
  taken_is r e = is.taken ∙ ap (λ (o : Option Refusal). taken_by o sectors (sector_count (geometry_of (superblock_of copy)))) e

  pub own_sectors : superblock_refusal sectors copy ≡ None → copied ≡ sector_count (geometry_of (superblock_of copy))
  own_sectors none = taken_is None none

  pub some_copied : 1 ≤ sectors → 1 ≤ copied
  some_copied some = by (superblock_refusal sectors copy) refl
    where
      by : (r : Option Refusal) → superblock_refusal sectors copy ≡ r → 1 ≤ copied
      by None e = let least = (taken_here sectors copy e).geometry.least_blocks in let all = taken_is None e in omega (arith, least, all)
      by (Some r) e = let all : copied ≡ min 8 sectors = taken_is (Some r) e in omega (arith, all, some)

  -- none are copied where there are none
  none_copied : sectors ≡ 0 → superblock_refusal copied copy ≡ superblock_refusal sectors copy
  none_copied none = by (superblock_refusal sectors copy) refl
    where
      by : (r : Option Refusal) → superblock_refusal sectors copy ≡ r → superblock_refusal copied copy ≡ superblock_refusal sectors copy
      by None e = let least = (taken_here sectors copy e).geometry.least_blocks in let room = (taken_here sectors copy e).room in absurd (omega (arith, least, room, none))
      by (Some r) e = let all : copied ≡ min 8 sectors = taken_is (Some r) e in let same : copied ≡ sectors = omega (arith, all, none) in ap (λ n. superblock_refusal n copy) same

  some_refused : 1 ≤ sectors → superblock_refusal copied copy ≡ superblock_refusal sectors copy
  some_refused some = by (superblock_refusal sectors copy) refl
    where
      empty : (copied == 0) ≡ (sectors == 0)
      empty = let there = some_copied some in grind (arith, nat_tests, there, some)

      with_small : nat_lt copied (sector_count (geometry_of (superblock_of copy))) ≡ nat_lt sectors (sector_count (geometry_of (superblock_of copy))) → superblock_refusal copied copy ≡ superblock_refusal sectors copy
      with_small small = λ i. refusal_by copy (empty i) (small i)

      by_size : (r : Refusal) → superblock_refusal sectors copy ≡ Some r → (small : Bool) → nat_lt sectors (sector_count (geometry_of (superblock_of copy))) ≡ small → superblock_refusal copied copy ≡ superblock_refusal sectors copy
      by_size r e true small =
          let all : copied ≡ min 8 sectors = taken_is (Some r) e in
          let below : sectors < sector_count (geometry_of (superblock_of copy)) = grind (arith, nat_tests, small) in
          let less : copied < sector_count (geometry_of (superblock_of copy)) = omega (arith, all, below) in
          let this : nat_lt copied (sector_count (geometry_of (superblock_of copy))) ≡ true = grind (arith, nat_tests, less) in
          with_small (this ∙ sym small)
      by_size r e false small =
          let before : refusal_by copy (sectors == 0) false ≡ Some r = ap (refusal_by copy (sectors == 0)) (sym small) ∙ e in
          ap (λ b. refusal_by copy b (nat_lt copied (sector_count (geometry_of (superblock_of copy))))) empty
          ∙ stays (refused_if (lacks_magic sectors copy) NoSuperblock) (refused_if (has_other_version copy) (BadVersion (superblock_of copy).version)) (refused_if (is_off_form copy) NoSuperblock) (bad_geometry copy) _ r before
          ∙ sym e

      by : (r : Option Refusal) → superblock_refusal sectors copy ≡ r → superblock_refusal copied copy ≡ superblock_refusal sectors copy
      by None e =
          let all = taken_is None e in
          let room = (taken_here sectors copy e).room in
          let one : nat_lt copied (sector_count (geometry_of (superblock_of copy))) ≡ false = grind (arith, nat_tests, all) in
          let two : nat_lt sectors (sector_count (geometry_of (superblock_of copy))) ≡ false = grind (arith, nat_tests, room) in
          with_small (one ∙ sym two)
      by (Some r) e = by_size r e (nat_lt sectors (sector_count (geometry_of (superblock_of copy)))) refl

  pub refused_same : superblock_refusal copied copy ≡ superblock_refusal sectors copy
  refused_same = elim (cases_lt sectors 1) [
    | inl none ↦ none_copied (omega (arith, none))
    | inr some ↦ some_refused some
  ]

  pub refusal_there : superblock_refusal sectors copy ≡ superblock_refusal sectors image
  refusal_there = elim (cases_lt sectors 1) [
    | inl none ↦ (let none_there : sectors ≡ 0 = omega (arith, none) in
        ap (λ n. superblock_refusal n copy) none_there ∙ sym (ap (λ n. superblock_refusal n image) none_there))
    | inr some ↦ ap (λ bytes. superblock_refusal sectors (λ _. bytes)) (is.same 0 (record { inside = some_copied some; used = first_used (geometry_of (superblock_of copy)) (volume copied copy) }))
  ]

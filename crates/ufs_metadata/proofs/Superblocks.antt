-- The superblock's refusals, one by one.
use Rattle.std.proofs.Common.{◌≡◌, ◌≢◌, ℕ, ◌<◌, List, Bool, true, false, Option, Some, None, take, refl, ap, sym, ◌∙◌, arith}
use Rattle.std.specs.Prelude.{◌==◌, ◌||◌, not, is_none}
use Rattle.std.specs.Str.{bytes_eq}
use Rattle.std.proofs.lemmas.Bool.{ne_eqb}
use Rattle.std.proofs.lemmas.Slice.Eq.{bytes_eq-Decides}
use Rattle.ufs_base.specs.Choices.{first_of, refused_if, some_if}
use Rattle.ufs_base.specs.Images.{Image}
use Rattle.ufs_layout.specs.Superblock.{magic, super_of, super_fields, geometry_of}
use Rattle.ufs_layout.specs.declared.superblock.Super.{Super}
use Rattle.ufs_layout.proofs.Spelled.{some_if-some}
use Rattle.ufs_image.specs.Volume.{Refusal, NoSuperblock, BadVersion, superblock_of, superblock_refusal, lacks_magic, has_other_version, is_off_form}
use Rattle.ufs_metadata.specs.Superblocks.{size_refusal}

pub none_false : {X : Type 0} (b : Bool) (x : X) → some_if b x ≡ None → b ≡ false
none_false true x is = grind (arith, is)
none_false false x is = refl

turned : (b : Bool) (xs ys : List ℕ) → bytes_eq ys xs ≡ b → bytes_eq xs ys ≡ false → b ≡ false
turned true xs ys is no_ = sym ((bytes_eq-Decides xs ys).1 (sym ((bytes_eq-Decides ys xs).0 is))) ∙ no_
turned false xs ys is no_ = refl

pub flipped : (xs ys : List ℕ) → bytes_eq xs ys ≡ false → bytes_eq ys xs ≡ false
flipped xs ys no_ = turned (bytes_eq ys xs) xs ys refl no_

pub flipped_true : (xs ys : List ℕ) → bytes_eq xs ys ≡ true → bytes_eq ys xs ≡ true
flipped_true xs ys yes_ = (bytes_eq-Decides ys xs).1 (sym ((bytes_eq-Decides xs ys).0 yes_))

abbrev off_form : ℕ → Image → Option Refusal
off_form n image = first_of (refused_if (is_off_form image) NoSuperblock) (size_refusal n (geometry_of (superblock_of image)))

abbrev by_version : ℕ → Image → Option Refusal
by_version n image = first_of (refused_if (has_other_version image) (BadVersion (superblock_of image).version)) (off_form n image)

module _ (n : ℕ) (some : 0 < n) (image : Image) where
  lacks : bytes_eq magic (take 8 (image 0)) ≡ false → lacks_magic n image ≡ true
  lacks no_ =
      let ne : n ≢ 0 = omega (arith, some) in
      λ i. ne_eqb n 0 ne i || not (flipped magic (take 8 (image 0)) no_ i)

  has : bytes_eq magic (take 8 (image 0)) ≡ true → lacks_magic n image ≡ false
  has yes_ =
      let ne : n ≢ 0 = omega (arith, some) in
      λ i. ne_eqb n 0 ne i || not (flipped_true magic (take 8 (image 0)) yes_ i)

  pub no_magic : bytes_eq magic (take 8 (image 0)) ≡ false → superblock_refusal n image ≡ Some NoSuperblock
  no_magic no_ = ap (λ b. first_of (refused_if b NoSuperblock) (by_version n image)) (lacks no_)

  pub other_version : bytes_eq magic (take 8 (image 0)) ≡ true → ((superblock_of image).version == 1) ≡ false → superblock_refusal n image ≡ Some (BadVersion (superblock_of image).version)
  other_version yes_ other =
      ap (λ b. first_of (refused_if b NoSuperblock) (by_version n image)) (has yes_)
      ∙ ap (λ b. first_of (refused_if (not b) (BadVersion (superblock_of image).version)) (off_form n image)) other

  pub off : bytes_eq magic (take 8 (image 0)) ≡ true → ((superblock_of image).version == 1) ≡ true → super_of 1 (image 0) ≡ None → superblock_refusal n image ≡ Some NoSuperblock
  off yes_ one none =
      ap (λ b. first_of (refused_if b NoSuperblock) (by_version n image)) (has yes_)
      ∙ ap (λ b. first_of (refused_if (not b) (BadVersion (superblock_of image).version)) (off_form n image)) one
      ∙ ap (λ (o : Option Super). first_of (refused_if (is_none o) NoSuperblock) (size_refusal n (geometry_of (superblock_of image)))) none

  pub on_form : bytes_eq magic (take 8 (image 0)) ≡ true → ((superblock_of image).version == 1) ≡ true → (s : Super) → super_of 1 (image 0) ≡ Some s → superblock_refusal n image ≡ size_refusal n (geometry_of (superblock_of image))
  on_form yes_ one s is =
      ap (λ b. first_of (refused_if b NoSuperblock) (by_version n image)) (has yes_)
      ∙ ap (λ b. first_of (refused_if (not b) (BadVersion (superblock_of image).version)) (off_form n image)) one
      ∙ ap (λ (o : Option Super). first_of (refused_if (is_none o) NoSuperblock) (size_refusal n (geometry_of (superblock_of image)))) is

-- A superblock that is on its form has the fields.
pub fields_are : (bytes : List ℕ) (s : Super) → super_of 1 bytes ≡ Some s → s ≡ super_fields bytes
fields_are bytes s is = sym (some_if-some _ (super_fields bytes) s is).1

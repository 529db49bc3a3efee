-- Whatever pair of images is left, where it opens it opens to an image of the mirror.
use Rattle.std.proofs.Common.{◌≡◌, ◌⊎◌, inl, inr, ⊎_elim, ◌≤◌, ◌<◌, ℕ, Bool, true, false, List, Option, Some, None, refl, sym, ◌∙◌, ap, subst, arith}
use Rattle.std.specs.Prelude.{if◌then◌else◌, nat_lt, ◌==◌, ◌&&◌, is_some}
use Rattle.std.proofs.lemmas.Bool.{cases_lt, lt-ltb, le-ltb}
use Rattle.ufs_base.specs.Images.{Image}
use Rattle.ufs_disk.specs.Disk.{Cell, IsAmong, IsImage, possible}
use Rattle.ufs_disk.specs.Props.{untrue}
use Rattle.ufs_mirror.specs.Labels.{generation}
use Rattle.ufs_mirror.specs.Labelled.{IsLabelled}
use Rattle.ufs_mirror.specs.Opens.{OpensRight, opened, unlabelled}
use Rattle.ufs_mirror.specs.Pairs.{Pair, state_of, cell_of}
use Rattle.ufs_mirror.specs.Whole.{joint_has}
use Rattle.ufs_mirror.specs.declared.legs.Picks.{Picks}
use Rattle.ufs_mirror.specs.declared.legs.Picks.TheVariants.{Either, First, Second}
use Rattle.ufs_mirror.proofs.Points.{inside_is, outside_is}
use Rattle.ufs_mirror.proofs.Views.{in_data, past_data}

abbrev from_some : Image → Option Image → Image
from_some other None = other
from_some other (Some image) = image

picked : (none less : Bool) (x y image : Image) → (if none then None else if less then Some y else Some x) ≡ Some image
    → ((less ≡ true) × (image ≡ y)) ⊎ ((less ≡ false) × (image ≡ x))
picked true less x y image is = absurd (untrue (ap is_some is))
picked false true x y image is = inl (refl, sym (ap (from_some image) is))
picked false false x y image is = inr (refl, sym (ap (from_some image) is))

-- the greater is picked, the first at a tie
opened_cases : (size : ℕ) (first second image : Image) → opened size first second ≡ Some image
    → ((generation (first size) < generation (second size)) × (image ≡ unlabelled size second)) ⊎ ((generation (second size) ≤ generation (first size)) × (image ≡ unlabelled size first))
opened_cases size first second image is =
    let one = generation (first size) in
    let other = generation (second size) in
    let which = picked (one == 0 && other == 0) (nat_lt one other) (unlabelled size first) (unlabelled size second) image is in
    elim (cases_lt one other) [
      | inl lt ↦ ⊎_elim (λ y. inl (lt, y.1)) (λ x. absurd (untrue (sym x.0 ∙ lt-ltb one other lt))) which
      | inr ge ↦ ⊎_elim (λ y. absurd (untrue (sym (le-ltb one other ge) ∙ y.0))) (λ x. inr (ge, x.1)) which
    ]

-- what a leg that may be picked leaves
leg_left : (size : ℕ) (pair : Pair) (image : Image) → ((k : ℕ) → k < size → IsAmong (possible (cell_of pair.picks (pair.first k) (pair.second k))) (image k)) → IsImage (state_of size pair) (unlabelled size image)
leg_left size pair image has k = elim (cases_lt k size) [
  | inl lt ↦ subst (λ c. IsAmong (possible c) (unlabelled size image k)) (sym (inside_is size pair k lt))
      (subst (IsAmong (possible (cell_of pair.picks (pair.first k) (pair.second k)))) (sym (in_data size image k lt)) (has k lt))
  | inr ge ↦ subst (λ c. IsAmong (possible c) (unlabelled size image k)) (sym (outside_is size pair k ge)) (inl (past_data size image k ge))
]

has_first : (picks : Picks) → (picks ≡ Second → ⊥) → (a b : Cell) (bytes : List ℕ) → IsAmong (possible a) bytes → IsAmong (possible (cell_of picks a b)) bytes
has_first Either other a b bytes among = joint_has a b bytes (inl among)
has_first First other a b bytes among = among
has_first Second other a b bytes among = absurd (other refl)

has_second : (picks : Picks) → (picks ≡ First → ⊥) → (a b : Cell) (bytes : List ℕ) → IsAmong (possible b) bytes → IsAmong (possible (cell_of picks a b)) bytes
has_second Either other a b bytes among = joint_has a b bytes (inr among)
has_second First other a b bytes among = absurd (other refl)
has_second Second other a b bytes among = among

pub labelled_opens : (size n : ℕ) (pair : Pair) → IsLabelled size n pair → OpensRight size pair
labelled_opens size n pair labelled first second image left right is = elim (opened_cases size first second image is) [
  | inl it ↦ subst (IsImage (state_of size pair)) (sym it.1)
      (leg_left size pair second (λ k lt. has_second pair.picks (not_second it.0) (pair.first k) (pair.second k) (second k) (right k)))
  | inr it ↦ subst (IsImage (state_of size pair)) (sym it.1)
      (leg_left size pair first (λ k lt. has_first pair.picks (not_first it.0) (pair.first k) (pair.second k) (first k) (left k)))
]
  where
    not_second : generation (first size) < generation (second size) → pair.picks ≡ First → ⊥
    not_second lt alone =
        let low = labelled.first_picked alone (first size) (left size) in
        let high = labelled.second_left alone (second size) (right size) in
        omega (arith, lt, low, high)

    not_first : generation (second size) ≤ generation (first size) → pair.picks ≡ Second → ⊥
    not_first le alone =
        let low = labelled.second_picked alone (second size) (right size) in
        let high = labelled.first_left alone (first size) (left size) in
        omega (arith, le, low, high)

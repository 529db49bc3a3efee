-- What stands in the labels, call by call.
use Rattle.std.proofs.Common.{◌≡◌, ⊎_elim, ◌≤◌, ◌<◌, ◌+◌, ◌^◌, ℕ, List, length, refl, sym, ◌∙◌, ap, subst}
use Rattle.std.specs.Prelude.{if◌then◌else◌}
use Rattle.std.proofs.lemmas.Nat.{from_le_bytes-to_le_bytes_8}
use Rattle.std.proofs.lemmas.Slice.Eq.{bytes_eq-Decides}
use Rattle.ufs_base.specs.Images.{Image}
use Rattle.ufs_disk.specs.Disk.{State, IsImage, IsMixedFrom, IsSettled, Leaves, put, put_all, sectors_of, seen}
use Rattle.ufs_disk.proofs.Images.{put_all_above, put_same, one_piece}
use Rattle.ufs_mirror.specs.Labels.{generation, label, number_in}
use Rattle.ufs_mirror.specs.Labelled.{Says}
use Rattle.ufs_mirror.proofs.Points.{image_with, point_left, point_mixed, point_outside}

number_label : (n : ℕ) → n < 2 ^ 64 → number_in (label n) ≡ n
number_label n lt = from_le_bytes-to_le_bytes_8 n lt

pub generation_label : (n : ℕ) → n < 2 ^ 64 → generation (label n) ≡ n
generation_label n lt =
    let same : label n ≡ label (number_in (label n)) = ap label (sym (number_label n lt)) in
    ap (λ b. if b then number_in (label n) else 0) ((bytes_eq-Decides (label n) (label (number_in (label n)))).1 same) ∙ number_label n lt

pub label_length : (n : ℕ) → length (label n) ≡ 512
label_length n = refl

module _ (size : ℕ) (P : ℕ → Type 0) where
  pub says_left : (old new : State) → Leaves (IsImage old) new → Says size P old → Says size P new
  says_left old new leaves says bytes among = says bytes (point_left old new leaves size bytes among)

  -- a write of the data
  pub says_data : (s : ℕ) (ps : List (List ℕ)) (old new : State) → s + length ps ≤ size → Leaves (IsMixedFrom s ps old) new → Says size P old → Says size P new
  says_data s ps old new fits leaves says bytes among =
      says bytes (point_outside s ps old new size (λ d. put_all_above ps s size d fits) leaves bytes among)

  -- a write of the label
  pub says_label : (piece : List ℕ) (old new : State) → length piece ≡ 512 → P (generation piece) → Leaves (IsMixedFrom size (sectors_of piece) old) new → Says size P old → Says size P new
  says_label piece old new sized is leaves says bytes among = ⊎_elim
      (λ was. says bytes was)
      (λ (puts : (image : Image) → bytes ≡ put_all size (sectors_of piece) image size). subst (λ b. P (generation b))
      (sym (puts (seen old) ∙ ap (λ (ps : List (List ℕ)). put_all size ps (seen old) size) (one_piece piece sized) ∙ put_same size piece (seen old))) is)
      (point_mixed size (sectors_of piece) old new leaves size bytes among)

  pub says_settled : (state : State) → IsSettled state → P (generation (seen state size)) → Says size P state
  says_settled state settled is bytes among =
      subst (λ b. P (generation b)) (sym (ap (λ (d : Image). d size) (settled (put size bytes (seen state)) (image_with state size bytes among))) ∙ put_same size bytes (seen state)) is

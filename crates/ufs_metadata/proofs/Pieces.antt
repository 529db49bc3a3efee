-- The sectors of a block's bytes, one by one.
use Rattle.std.proofs.Common.{◌≡◌, ◌≢◌, ℕ, zero, suc, ◌+◌, ◌*◌, ◌-◌, ◌<◌, ◌≤◌, inl, inr, List, [], ◌∷◌, ◌++◌, length, take, drop, refl, ap, sym, ◌∙◌, subst, arith}
use Rattle.std.specs.Prelude.{flat_map}
use Rattle.std.specs.List.{range_with_len}
use Rattle.std.proofs.lemmas.Bool.{cases_lt, cases_eq}
use Rattle.std.proofs.lemmas.List.{take-append-drop, drop-drop, drop-take, take-take, length-take-le, length-drop}
use Rattle.ufs_base.specs.Images.{Image}
use Rattle.ufs_overlay.specs.declared.overlay.Overlay.{Overlay}
use Rattle.ufs_metadata.specs.Folded.{IsFolded}
use Rattle.ufs_metadata.specs.Reading.{AreSectors}
use Rattle.ufs_metadata.specs.Told.{piece}

-- each sector of a block has 512 bytes
pub sectors_long : (image : Image) (first : ℕ) (bytes : List ℕ) → length bytes ≡ 4096 → AreSectors image first bytes → (s : ℕ) → first ≤ s → s < first + 8 → length (image s) ≡ 512
sectors_long image first bytes long are s from less =
    let i = s - first in
    let at : first + i ≡ s = omega (arith, from) in
    let few : i < 8 = omega (arith, from, less) in
    let rest = length-drop (512 * i) bytes in
    sym (ap length (are i few ∙ ap image at)) ∙ length-take-le 512 (drop (512 * i) bytes) (omega (arith, rest, long, few))

-- bytes whose pieces are so many sectors
pub joined : (image : Image) (first n : ℕ) (bytes : List ℕ) → length bytes ≡ 512 * n → ((i : ℕ) → i < n → piece bytes i ≡ image (first + i)) → bytes ≡ flat_map image (range_with_len first n)
joined image first zero [] long are = refl
joined image first zero (b ∷ bytes) long are = absurd (omega (arith, long))
joined image first (suc n) bytes long are =
    let head : take 512 bytes ≡ image first = (let at : 0 ≡ 512 * 0 = omega arith in ap (λ k. take 512 (drop k bytes)) at) ∙ are 0 (omega arith) ∙ (let at : first + 0 ≡ first = omega arith in ap image at) in
    let behind = length-drop 512 bytes in
    let rest : drop 512 bytes ≡ flat_map image (range_with_len (first + 1) n) =
    joined image (first + 1) n (drop 512 bytes) (omega (arith, long, behind)) (λ i less.
    let at : 512 + 512 * i ≡ 512 * suc i = omega arith in
    let next : first + suc i ≡ first + 1 + i = omega arith in
    ap (take 512) (drop-drop (512 * i) 512 bytes) ∙ ap (λ k. take 512 (drop k bytes)) at ∙ are (suc i) (omega (arith, less)) ∙ ap image next) in
    sym (take-append-drop 512 bytes) ∙ (λ k. head k ++ rest k)

-- a piece that ends before a place
in_front : (bytes other : List ℕ) (at j : ℕ) → 512 * j + 512 ≤ at → take at bytes ≡ take at other → piece bytes j ≡ piece other j
in_front bytes other at j ends same = front bytes ∙ ap (λ l. take 512 (drop (512 * j) l)) same ∙ sym (front other)
  where
    front : (l : List ℕ) → piece l j ≡ take 512 (drop (512 * j) (take at l))
    front l =
        let m = at - 512 * j in
        let sum : 512 * j + m ≡ at = omega (arith, ends) in
        sym (take-take 512 m (drop (512 * j) l) (omega (arith, ends))) ∙ ap (take 512) (sym (drop-take (512 * j) m l)) ∙ ap (λ n. take 512 (drop (512 * j) (take n l))) sum

-- one that begins behind a place
behind : (bytes other : List ℕ) (at j : ℕ) → at ≤ 512 * j → drop at bytes ≡ drop at other → piece bytes j ≡ piece other j
behind bytes other at j begins same = back bytes ∙ ap (λ l. take 512 (drop (512 * j - at) l)) same ∙ sym (back other)
  where
    back : (l : List ℕ) → piece l j ≡ take 512 (drop (512 * j - at) (drop at l))
    back l = let sum : at + (512 * j - at) ≡ 512 * j = omega (arith, begins) in ap (λ n. take 512 (drop n l)) (sym sum) ∙ ap (take 512) (sym (drop-drop (512 * j - at) at l))

-- ---- a block to whose first sectors an overlay was applied
pub record IsApplied (overlay : Overlay) (first done : ℕ) (old now : List ℕ) : Type 0 where
  pub front : (home image : Image) → IsFolded overlay home image → AreSectors home first old → (j : ℕ) → j < done → piece now j ≡ image (first + j)
  pub rest : (j : ℕ) → done ≤ j → piece now j ≡ piece old j

pub applied_none : (overlay : Overlay) (first : ℕ) (old : List ℕ) → IsApplied overlay first 0 old old
applied_none overlay first old = record { front = λ home image is are j less. absurd (omega (arith, less)); rest = λ j from. refl }

pub applied_more : (overlay : Overlay) (first done at end : ℕ) (old now next : List ℕ) → done < 8 → at ≡ 512 * done → end ≡ at + 512 → IsApplied overlay first done old now
    → take at next ≡ take at now → ((home image : Image) → IsFolded overlay home image → take 512 (drop at now) ≡ home (first + done) → take 512 (drop at next) ≡ image (first + done)) → drop end next ≡ drop end now
    → IsApplied overlay first (done + 1) old next
applied_more overlay first done at end old now next few at_is end_is so_far before there after = record {
  front = λ home image is are j less. elim (cases_eq j done) [
    | inl here ↦ subst (λ (k : ℕ). piece next k ≡ image (first + k)) (sym here)
        (ap (λ n. take 512 (drop n next)) (sym at_is) ∙ there home image is (ap (λ n. take 512 (drop n now)) at_is ∙ so_far.rest done (omega arith) ∙ are done few))
    | inr other ↦ in_front next now at j (omega (arith, less, other, at_is)) before ∙ so_far.front home image is are j (omega (arith, less, other))
  ];
  rest = λ j from. behind next now end j (omega (arith, from, at_is, end_is)) after ∙ so_far.rest j (omega (arith, from));
}

pub applied_all : (overlay : Overlay) (first done : ℕ) (old now : List ℕ) → done ≡ 8 → IsApplied overlay first done old now → (home image : Image) → IsFolded overlay home image → AreSectors home first old → AreSectors image first now
applied_all overlay first done old now all so_far home image is are j less = so_far.front home image is are j (omega (arith, less, all))

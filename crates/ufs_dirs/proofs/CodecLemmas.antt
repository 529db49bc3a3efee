-- Bytes of slots in a row.
use Rattle.std.proofs.Common.{◌≡◌, ℕ, ◌+◌, ◌-◌, ◌*◌, ◌<◌, List, [], ◌∷◌, ◌++◌, length, take, drop, flat_map, ap, sym, ◌∙◌, arith, get_or}
use Rattle.std.proofs.Math.Seq.{take-append_seam, drop-append-add}
use Rattle.std.proofs.lemmas.List.{take_more, flat_map_more, drop-drop}
use Rattle.ufs_layout.specs.DentryForm.{DentryForm}

-- the next 64 bytes behind those that are written
pub written_next : (front piece area old : List ℕ) (k : ℕ) → length front ≡ 64 * k → area ≡ front ++ drop (64 * k) old → take (64 * k) area ++ piece ++ drop (64 * k + 64) area ≡ (front ++ piece) ++ drop (64 * (k + 1)) old
written_next front piece area old k sized is =
    let rest = drop (64 * k) old in
    let first : take (64 * k) area ≡ front = ap (take (64 * k)) is ∙ ap (λ (n : ℕ). take n (front ++ rest)) (sym sized) ∙ take-append_seam front rest in
    let at : 64 * k + 64 ≡ length front + 64 = omega (arith, sized) in
    let end : 64 * k + 64 ≡ 64 * (k + 1) = omega arith in
    let last : drop (64 * k + 64) area ≡ drop (64 * (k + 1)) old =
    ap (drop (64 * k + 64)) is ∙ ap (λ (n : ℕ). drop n (front ++ rest)) at ∙ drop-append-add front rest 64 ∙ drop-drop 64 (64 * k) old ∙ ap (λ (n : ℕ). drop n old) end in
    ap (λ (a : List ℕ). a ++ piece ++ drop (64 * k + 64) area) first ∙ ap (λ (b : List ℕ). front ++ piece ++ b) last

-- one more of a row
pub row_next : {X : Type 0} (f : X → List ℕ) (xs : List X) (k : ℕ) (x : X) → k < length xs → x ≡ get_or xs k x → flat_map f (take (k + 1) xs) ≡ flat_map f (take k xs) ++ f x
row_next f xs k x inside is = ap (flat_map f) (take_more xs k x inside) ∙ ap (λ y. flat_map f (take k xs ++ y ∷ [])) (sym is) ∙ sym (flat_map_more f [] (take k xs) x)

pub block_piece : (slots : List DentryForm) (index from to : ℕ) → from ≡ 64 * index → to ≡ from + 64 → take (to - from) (drop from slots) ≡ take 64 (drop (64 * index) slots)
block_piece slots index from to start end =
    let size : to - from ≡ 64 = omega arith in
    ap (λ (n : ℕ). take n (drop from slots)) size ∙ ap (λ (n : ℕ). take 64 (drop n slots)) start

-- A changed inode is on its form.
use Rattle.std.proofs.Common.{◌≡◌, ℕ, zero, suc, ◌+◌, ◌≤◌, List, [], ◌∷◌, ◌++◌, true, ◌&&◌, ◌||◌, length, take, drop, min, ap, sym, ◌∙◌, arith}
use Rattle.std.specs.Prelude.{◌==◌, not, nat_le}
use Rattle.std.specs.List.{list_all}
use Rattle.std.proofs.lemmas.Bool.{and_parts, leb-true, le-leb, ne_eqb}
use Rattle.std.proofs.lemmas.List.{length-append, length-take, length-take-le, take_min}
use Rattle.std.proofs.Math.Seq.{take-append_seam}
use Rattle.ufs_layout.specs.InodeForm.{InodeForm, is_extent, is_inode}
use Rattle.ufs_layout.specs.Records.{is_record}
use Rattle.ufs_image.specs.Fold.{after_delta}
use Rattle.ufs_layout.specs.declared.inode.Extent.{Extent}
use Rattle.ufs_layout.specs.declared.records.LogRecord.TheVariants.{Delta}

extents_append : (n : ℕ) (xs ys : List Extent) → list_all is_extent xs ≡ true → list_all is_extent ys ≡ true → list_all is_extent (take n xs ++ ys) ≡ true
extents_append zero xs ys one two = two
extents_append (suc n) [] ys one two = two
extents_append (suc n) (x ∷ xs) ys one two =
    let parts = and_parts (is_extent x) (list_all is_extent xs) one in
    λ i. parts.0 i && extents_append n xs ys parts.1 two i

pub delta_form : (form : InodeForm) (number inode kind size keep : ℕ) (extents : List Extent) → is_inode form ≡ true → is_record (Delta inode kind size keep extents) ≡ true → is_inode (after_delta form number kind size keep extents) ≡ true
delta_form form number inode kind size keep extents is_form is =
    let parts = and_parts (nat_le 1 kind && nat_le kind 2) (nat_le (keep + length extents) 56 && list_all is_extent extents) is in
    let kinds = and_parts (nat_le 1 kind) (nat_le kind 2) parts.0 in
    let lists = and_parts (nat_le (keep + length extents) 56) (list_all is_extent extents) parts.1 in
    let old = and_parts (nat_le form.kind 2) _ is_form in
    let olds = and_parts (nat_le (length form.extents) 56) _ old.1 in
    let old_extents = and_parts (list_all is_extent form.extents) _ olds.1 in
    let some : 1 ≤ kind = leb-true 1 kind kinds.0 in
    let few : keep + length extents ≤ 56 = leb-true (keep + length extents) 56 lists.0 in
    let long = length-append (take keep form.extents) extents in
    let short = length-take keep form.extents in
    (λ i. kinds.1 i && (le-leb (length (take keep form.extents ++ extents)) 56 (omega (arith, long, short, few)) i && (extents_append keep form.extents extents old_extents.0 lists.1 i
    && (not (ne_eqb kind 0 (λ zero_. absurd (omega arith)) i) || length (take keep form.extents ++ extents) == 0 && size == 0))))

least : (m n : ℕ) → min m n ≡ min n m
least m n = omega arith

-- two lists that are put one behind the other
pub joined_front : (places first second used given piece : List Extent) (count keep : ℕ) → count ≡ min (length used) keep → count + length given ≤ length places → piece ≡ take count used
    → first ≡ take 0 places ++ piece ++ drop (0 + length piece) places → second ≡ take count first ++ given ++ drop (count + length given) first → take (count + length given) second ≡ take keep used ++ given
joined_front places first second used given piece count keep counted room piece_is first_is second_is =
    let long : length piece ≡ count = ap length piece_is ∙ length-take-le count used (omega (arith, counted)) in
    let front : take count first ≡ piece = ap (take count) first_is ∙ ap (λ n. take n (piece ++ drop (0 + length piece) places)) (sym long) ∙ take-append_seam piece (drop (0 + length piece) places) in
    let both : second ≡ (piece ++ given) ++ drop (count + length given) first = second_is ∙ ap (λ l. l ++ given ++ drop (count + length given) first) front in
    let counts : count + length given ≡ length (piece ++ given) = omega (arith, long, length-append piece given) in
    ap (λ n. take n second) counts ∙ ap (take (length (piece ++ given))) both ∙ take-append_seam (piece ++ given) (drop (count + length given) first)
    ∙ ap (λ l. l ++ given) (piece_is ∙ kept)
  where
    kept : take count used ≡ take keep used
    kept = ap (λ n. take n used) counted ∙ ap (λ n. take n used) (least (length used) keep) ∙ take_min keep used

-- Extents in a row: read one after the other, spelled again, and put into an inode's places.
use Rattle.std.proofs.Common.{ℕ, zero, suc, ◌≡◌, ◌+◌, ◌-◌, ◌*◌, ◌<◌, ◌≤◌, List, [], ◌∷◌, ◌++◌, length, take, drop, replicate, set, Bool, true, false, ◌&&◌, refl, sym, ap, ◌∙◌, arith}
use Rattle.std.specs.List.{list_all, flat_map, AllByRecursion}
use Rattle.std.specs.Str.{bytes_eq}
use Rattle.std.proofs.Math.Seq.{take-add}
use Rattle.std.proofs.lemmas.List.{drop-drop, drop_at, take_at, set_at, append_assoc, length-append, length-drop, length-replicate, length-take-le}
use Rattle.ufs_base.specs.Images.{IsBytes}
use Rattle.ufs_layout.specs.Words.{padded, IsPadded, filled_to, is_zeros}
use Rattle.ufs_layout.specs.InodeForm.{extents_at, extent_fields, extent_bytes, is_extent, FitsExtent}
use Rattle.ufs_layout.proofs.Compared.{IsBytes-drop, little_bytes-little_number, number-back, filled-compared}
use Rattle.ufs_layout.specs.declared.inode.Extent.{Extent}

pub length-extents_at : (n : ℕ) (area : List ℕ) → length (extents_at n area) ≡ n
length-extents_at zero area = refl
length-extents_at (suc n) area = omega (arith, length-extents_at n (drop 8 area))

-- one extent more
pub extents_at-suc : (i : ℕ) (area : List ℕ) → extents_at (suc i) area ≡ extents_at i area ++ extent_fields (drop (8 * i) area) ∷ []
extents_at-suc zero area = refl
extents_at-suc (suc i) area =
    let at : 8 + 8 * i ≡ 8 * suc i = omega arith in
    ap (λ es. extent_fields area ∷ es) (extents_at-suc i (drop 8 area))
    ∙ ap (λ bytes. extent_fields area ∷ extents_at i (drop 8 area) ++ extent_fields bytes ∷ []) (drop-drop (8 * i) 8 area ∙ ap (λ n. drop n area) at)

pub list_all-push : {X : Type 0} (p : X → Bool) (xs : List X) (x : X) → list_all p xs ≡ true → p x ≡ true → list_all p (xs ++ x ∷ []) ≡ true
list_all-push p [] x before here = rw here refl
list_all-push p (y ∷ xs) x before here = by_first (p y) (list_all p xs) (list_all p (xs ++ x ∷ [])) (λ behind. list_all-push p xs x behind here) before
  where
    by_first : (b some more : Bool) → (some ≡ true → more ≡ true) → (b && some) ≡ true → (b && more) ≡ true
    by_first true some more step before = step before
    by_first false some more step before = before

-- Where one extent has no block, not all have one.
pub no_block_at : (count i : ℕ) (area : List ℕ) → i < count → is_extent (extent_fields (drop (8 * i) area)) ≡ false → list_all is_extent (extents_at count area) ≡ false
no_block_at zero i area less none = absurd (omega arith)
no_block_at (suc count) zero area less none = ap (λ b. b && list_all is_extent (extents_at count (drop 8 area))) none
no_block_at (suc count) (suc i) area less none =
    let at : 8 + 8 * i ≡ 8 * suc i = omega arith in
    let there : is_extent (extent_fields (drop (8 * i) (drop 8 area))) ≡ false = ap (λ bytes. is_extent (extent_fields bytes)) (drop-drop (8 * i) 8 area ∙ ap (λ n. drop n area) at) ∙ none in
    ap (λ b. is_extent (extent_fields area) && b) (no_block_at count i (drop 8 area) (omega arith) there) ∙ and_false (is_extent (extent_fields area))
  where
    and_false : (b : Bool) → (b && false) ≡ false
    and_false true = refl
    and_false false = refl

-- The next place of a padded list is written.
pub padded-push : {X : Type 0} (filler : X) (size n : ℕ) (xs : List X) (x : X) → length xs ≡ n → n < size → set (padded filler size xs) n x ≡ padded filler size (xs ++ x ∷ [])
padded-push filler size n xs x is_n less =
    ap (λ r. set (xs ++ r) n x) (ap (λ k. replicate k filler) one_less)
    ∙ set_at xs filler (replicate (size - suc n) filler) x n is_n
    ∙ sym (append_assoc xs (x ∷ []) (replicate (size - suc n) filler))
    ∙ ap (λ k. xs ++ x ∷ [] ++ replicate k filler) left
  where
    one_less : size - length xs ≡ suc (size - suc n)
    one_less = omega arith

    left : size - suc n ≡ size - length (xs ++ x ∷ [])
    left = omega (arith, length-append xs (x ∷ []))

-- An invariant over a row goes on by one.
pub AllByRecursion-push : {X : Type 0} (P : X → Type 0) (xs : List X) (x : X) → AllByRecursion P xs → P x → AllByRecursion P (xs ++ x ∷ [])
AllByRecursion-push P [] x before here = (here, tt)
AllByRecursion-push P (y ∷ xs) x before here = (before.0, AllByRecursion-push P xs x before.1 here)

pub length-extents : (es : List Extent) → length (flat_map extent_bytes es) ≡ 8 * length es
length-extents [] = refl
length-extents (e ∷ es) = omega (arith, length-extents es)

-- The extents that stand in a row are spelled by its bytes.
pub extents-spelled : (count : ℕ) (area : List ℕ) → 8 * count ≤ length area → IsBytes area → flat_map extent_bytes (extents_at count area) ≡ take (8 * count) area
extents-spelled zero area fits is = refl
extents-spelled (suc count) area fits is =
    let more : 8 + 8 * count ≡ 8 * suc count = omega arith in
    (λ i. first_two i ++ extents-spelled count (drop 8 area) (omega (arith, length-drop 8 area)) (IsBytes-drop 8 area is) i)
    ∙ sym (take-add 8 (8 * count) area) ∙ ap (λ n. take n area) more
  where
    first_two : extent_bytes (extent_fields area) ≡ take 8 area
    first_two =
        (λ i. little_bytes-little_number 4 area (omega arith) is i ++ little_bytes-little_number 4 (drop 4 area) (omega (arith, length-drop 4 area)) (IsBytes-drop 4 area is) i)
        ∙ sym (take-add 4 4 area)

-- Extents and the zeros behind them, compared with their bytes.
pub extents-compared : (count size : ℕ) (area : List ℕ) → length area ≡ size → 8 * count ≤ size → IsBytes area
    → bytes_eq (filled_to size (flat_map extent_bytes (extents_at count area))) area ≡ is_zeros (drop (8 * count) area)
extents-compared count size area sized fits is =
    ap (λ xs. bytes_eq (filled_to size xs) area) (extents-spelled count area (omega arith) is)
    ∙ filled-compared (8 * count) size area sized fits

-- The same extents stand in what is spelled.
pub extents-back : (es : List Extent) (rest : List ℕ) → AllByRecursion FitsExtent es → extents_at (length es) (flat_map extent_bytes es ++ rest) ≡ es
extents-back [] rest fits = refl
extents-back (e ∷ es) rest fits = λ i. record { start = number-back 4 e.start fits.0.start i; length = number-back 4 e.length fits.0.length i } ∷ extents-back es rest fits.1 i

-- The next piece is put behind what was put.
pub put-next : (a k p : ℕ) (old area new done piece : List ℕ) → a + k ≤ length old → length done ≡ k
    → area ≡ take a old ++ done ++ drop (a + k) old → new ≡ take (a + k) area ++ piece ++ drop (a + k + p) area
    → new ≡ take a old ++ (done ++ piece) ++ drop (a + k + p) old
put-next a k p old area new done piece room is_k is_area is_new =
    is_new ∙ (λ i. front i ++ piece ++ rest i) ∙ ap (λ xs. xs ++ drop (a + k + p) old) (append_assoc (take a old) done piece)
  where
    seam : length (take a old ++ done) ≡ a + k
    seam = omega (arith, length-append (take a old) done, length-take-le a old (omega arith))

    front : take (a + k) area ≡ take a old ++ done
    front = ap (take (a + k)) is_area ∙ take_at (take a old ++ done) (drop (a + k) old) (a + k) seam

    behind : drop (a + k) area ≡ drop (a + k) old
    behind = ap (drop (a + k)) is_area ∙ drop_at (take a old ++ done) (drop (a + k) old) (a + k) seam

    rest : drop (a + k + p) area ≡ drop (a + k + p) old
    rest = sym (drop-drop p (a + k) area) ∙ ap (drop p) behind ∙ drop-drop p (a + k) old

-- A padded list is one whose count is its length.
pub IsPadded-padded : {X : Type 0} (filler : X) (size n : ℕ) (xs : List X) → length xs ≡ n → n ≤ size → IsPadded filler size n (padded filler size xs)
IsPadded-padded filler size n xs is_n few = record {
  counted = few;
  sized = omega (arith, length-append xs (replicate (size - length xs) filler), length-replicate (size - length xs) filler);
  rest = drop_at xs (replicate (size - length xs) filler) n is_n ∙ ap (λ m. replicate (size - m) filler) is_n;
}

pub take-padded : {X : Type 0} (filler : X) (size n : ℕ) (xs : List X) → length xs ≡ n → take n (padded filler size xs) ≡ xs
take-padded filler size n xs is_n = take_at xs (replicate (size - length xs) filler) n is_n

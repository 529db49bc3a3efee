-- The bytes of a file, place by place, and of its blocks.
use Rattle.std.proofs.Common.{◌≡◌, ℕ, zero, suc, ◌+◌, ◌-◌, ◌*◌, ◌≤◌, ◌<◌, ◌⊎◌, inl, inr, List, [], ◌∷◌, ◌++◌, length, min, drop, replicate, get_or, ap, sym, refl, ◌∙◌, arith, length-append}
use Rattle.std.proofs.lemmas.Bool.{cases_lt}
use Rattle.std.proofs.lemmas.List.{ext_get_or, get_or-append_right, get_or-drop, get_or-replicate, get_or-take, get_or_append_left, length-drop, length-replicate, length-take, length-take-le}
use Rattle.ufs_model.specs.FileBytes.{part, resized}
use Rattle.ufs_file.specs.Content.{block_bytes, own_bytes}

pub past_end : {X : Type 0} (xs : List X) (i : ℕ) (d : X) → length xs ≤ i → get_or xs i d ≡ d
past_end [] i d le = refl
past_end (x ∷ xs) zero d le = absurd (omega (arith, le))
past_end (x ∷ xs) (suc i) d le = past_end xs i d (omega (arith, le))

-- more of what stands past the end changes nothing
pub byte_padded : (xs : List ℕ) (n i : ℕ) → get_or (xs ++ replicate n 0) i 0 ≡ get_or xs i 0
byte_padded xs n i = by (cases_lt i (length xs))
  where
    behind : (k : ℕ) → get_or (replicate {A = ℕ} n 0) k 0 ≡ 0
    behind k = at (cases_lt k n)
      where
        at : (k < n) ⊎ (n ≤ k) → get_or (replicate {A = ℕ} n 0) k 0 ≡ 0
        at (inl less) = get_or-replicate n k 0 0 less
        at (inr le) = past_end (replicate n 0) k 0 (omega (arith, le, length-replicate {A = ℕ} n 0))

    by : (i < length xs) ⊎ (length xs ≤ i) → get_or (xs ++ replicate n 0) i 0 ≡ get_or xs i 0
    by (inl less) = get_or_append_left xs (replicate n 0) 0 i less
    by (inr le) = get_or-append_right xs (replicate n 0) (length xs) i 0 refl le ∙ behind (i - length xs) ∙ sym (past_end xs i 0 le)

pub length-resized : (xs : List ℕ) (size : ℕ) → length (resized xs size) ≡ size
length-resized xs size =
    let z : List ℕ = replicate (size - length xs) 0 in
    length-take-le size (xs ++ z) (omega (arith, length-append xs z, length-replicate {A = ℕ} (size - length xs) 0))

pub byte_resized : (xs : List ℕ) (size i : ℕ) → i < size → get_or (resized xs size) i 0 ≡ get_or xs i 0
byte_resized xs size i less = get_or-take size (xs ++ replicate (size - length xs) 0) i 0 less ∙ byte_padded xs (size - length xs) i

-- ---- blocks

pub block_byte : (xs : List ℕ) (place i : ℕ) → i < 4096 → get_or (block_bytes xs place) i 0 ≡ get_or xs (4096 * place + i) 0
block_byte xs place i less = byte_resized (drop (4096 * place) xs) 4096 i less ∙ get_or-drop (4096 * place) xs i 0

pub block_agrees : (xs ys : List ℕ) (place : ℕ) → ((k : ℕ) → 4096 * place ≤ k → k < 4096 * place + 4096 → get_or xs k 0 ≡ get_or ys k 0) → block_bytes xs place ≡ block_bytes ys place
block_agrees xs ys place h =
    let a : length (block_bytes xs place) ≡ 4096 = length-resized (drop (4096 * place) xs) 4096 in
    let b : length (block_bytes ys place) ≡ 4096 = length-resized (drop (4096 * place) ys) 4096 in
    ext_get_or 0 (block_bytes xs place) (block_bytes ys place) (a ∙ sym b) (λ i less.
    let low : i < 4096 = omega (arith, less, a) in
    block_byte xs place i low ∙ h (4096 * place + i) (omega arith) (omega (arith, low)) ∙ sym (block_byte ys place i low))

pub agrees_in_block : (xs ys : List ℕ) (place k : ℕ) → block_bytes xs place ≡ block_bytes ys place → 4096 * place ≤ k → k < 4096 * place + 4096 → get_or xs k 0 ≡ get_or ys k 0
agrees_in_block xs ys place k is low high =
    let i = k - 4096 * place in
    let less : i < 4096 = omega (arith, low, high) in
    let e : 4096 * place + i ≡ k = omega (arith, low) in
    ap (λ j. get_or xs j 0) (sym e) ∙ sym (block_byte xs place i less) ∙ ap (λ (l : List ℕ). get_or l i 0) is ∙ block_byte ys place i less ∙ ap (λ j. get_or ys j 0) e

-- what the file has of a block, where it ends alike in it
pub own_agrees : (xs ys : List ℕ) (place : ℕ) → min (length xs) (4096 * place + 4096) ≡ min (length ys) (4096 * place + 4096)
    → ((k : ℕ) → 4096 * place ≤ k → k < 4096 * place + 4096 → get_or xs k 0 ≡ get_or ys k 0) → own_bytes xs place ≡ own_bytes ys place
own_agrees xs ys place ends h = ext_get_or 0 (own_bytes xs place) (own_bytes ys place) same each
  where
    same : length (own_bytes xs place) ≡ length (own_bytes ys place)
    same = omega (arith, ends, length-take 4096 (drop (4096 * place) xs), length-take 4096 (drop (4096 * place) ys), length-drop (4096 * place) xs, length-drop (4096 * place) ys)

    each : (i : ℕ) → i < length (own_bytes xs place) → get_or (own_bytes xs place) i 0 ≡ get_or (own_bytes ys place) i 0
    each i less =
        let low : i < 4096 = omega (arith, less, length-take 4096 (drop (4096 * place) xs)) in
        get_or-take 4096 (drop (4096 * place) xs) i 0 low ∙ get_or-drop (4096 * place) xs i 0 ∙ h (4096 * place + i) (omega arith) (omega (arith, low))
        ∙ sym (get_or-drop (4096 * place) ys i 0) ∙ sym (get_or-take 4096 (drop (4096 * place) ys) i 0 low)

-- ---- parts

pub length-part : (xs ys : List ℕ) (at n : ℕ) → length xs ≡ length ys → length (part xs at n) ≡ length (part ys at n)
length-part xs ys at n same = omega (arith, same, length-take n (drop at xs), length-take n (drop at ys), length-drop at xs, length-drop at ys)

pub part_agrees : (xs ys : List ℕ) (at n : ℕ) → length xs ≡ length ys → ((k : ℕ) → at ≤ k → k < at + n → k < length ys → get_or xs k 0 ≡ get_or ys k 0) → part xs at n ≡ part ys at n
part_agrees xs ys at n same h = ext_get_or 0 (part xs at n) (part ys at n) (length-part xs ys at n same) each
  where
    each : (i : ℕ) → i < length (part xs at n) → get_or (part xs at n) i 0 ≡ get_or (part ys at n) i 0
    each i less =
        let size = length-take n (drop at xs) in
        let rest = length-drop at xs in
        let low : i < n = omega (arith, less, size) in
        let inside : at + i < length ys = omega (arith, less, size, rest, same) in
        get_or-take n (drop at xs) i 0 low ∙ get_or-drop at xs i 0 ∙ h (at + i) (omega arith) (omega (arith, low)) inside
        ∙ sym (get_or-drop at ys i 0) ∙ sym (get_or-take n (drop at ys) i 0 low)

-- Sectors as parts of one list of bytes.
use Rattle.std.proofs.Common.{◌≡◌, inl, inr, ℕ, zero, suc, ◌+◌, ◌-◌, ◌*◌, ◌≤◌, ◌<◌, List, [], ◌++◌, length, take, drop, get_or, refl, sym, ◌∙◌, ap, arith, length-drop, take-append-drop}
use Rattle.std.proofs.lemmas.List.{drop-drop, drop_at, take-append-le, drop-append-le, length-take-le, drop-take, take-take}
use Rattle.std.proofs.lemmas.Bool.{cases_lt}
use Rattle.ufs_base.specs.Images.{Image}
use Rattle.ufs_disk.specs.Disk.{put_all, pieces, bytes_from}
use Rattle.ufs_disk.specs.Bytes.{image_of}
use Rattle.ufs_disk.proofs.Images.{put_all_below, put_all_above, put_all_within}

pub take_plus : (m n : ℕ) (l : List ℕ) → take (m + n) l ≡ take m l ++ take n (drop m l)
take_plus m n l = sym (take-append-drop m (take (m + n) l)) ∙ (λ i. take-take m (m + n) l (omega arith) i ++ drop-take m n l i)

pub drop_front : (front rest : List ℕ) (n m : ℕ) → n ≡ length front + m → drop n (front ++ rest) ≡ drop m rest
drop_front front rest n m is =
    ap (λ k. drop k (front ++ rest)) is ∙ sym (drop-drop m (length front) (front ++ rest)) ∙ ap (drop m) (drop_at front rest (length front) refl)

-- in front of the range
pub below : (now rest : List ℕ) (s k : ℕ) → k < s → 512 * s ≤ length now → image_of (take (512 * s) now ++ rest) k ≡ image_of now k
below now rest s k lt fits =
    let size : length (take (512 * s) now) ≡ 512 * s = length-take-le (512 * s) now fits in
    let split : 512 * s ≡ 512 * k + (512 * s - 512 * k) = omega arith in
    let first : drop (512 * k) (take (512 * s) now ++ rest) ≡ drop (512 * k) (take (512 * s) now) ++ rest = drop-append-le (512 * k) (take (512 * s) now) rest (omega arith) in
    let cut : drop (512 * k) (take (512 * s) now) ≡ take (512 * s - 512 * k) (drop (512 * k) now) =
    ap (λ n. drop (512 * k) (take n now)) split ∙ drop-take (512 * k) (512 * s - 512 * k) now in
    ap (take 512) first ∙ take-append-le 512 (drop (512 * k) (take (512 * s) now)) rest (omega (arith, length-drop (512 * k) (take (512 * s) now)))
    ∙ ap (take 512) cut ∙ take-take 512 (512 * s - 512 * k) (drop (512 * k) now) (omega arith)

-- in it
pub within : (front bytes rest : List ℕ) (s i : ℕ) → length front ≡ 512 * s → 512 * (i + 1) ≤ length bytes → image_of (front ++ (bytes ++ rest)) (s + i) ≡ take 512 (drop (512 * i) bytes)
within front bytes rest s i size fits =
    ap (take 512) (drop_front front (bytes ++ rest) (512 * (s + i)) (512 * i) (omega arith) ∙ drop-append-le (512 * i) bytes rest (omega arith))
    ∙ take-append-le 512 (drop (512 * i) bytes) rest (omega (arith, length-drop (512 * i) bytes))

-- behind it
pub above : (front bytes now : List ℕ) (n k : ℕ) → length front + length bytes ≡ n → n ≤ 512 * k → image_of (front ++ (bytes ++ drop n now)) k ≡ image_of now k
above front bytes now n k size le =
    ap (take 512) (drop_front front (bytes ++ drop n now) (512 * k) (512 * k - length front) (omega arith)
    ∙ drop_front bytes (drop n now) (512 * k - length front) (512 * k - n) (omega arith)
    ∙ drop-drop (512 * k - n) n now ∙ ap (λ m. drop m now) (omega arith))

pub length-pieces : (n : ℕ) (bytes : List ℕ) → length (pieces n bytes) ≡ n
length-pieces zero bytes = refl
length-pieces (suc n) bytes = ap suc (length-pieces n (drop 512 bytes))

pub pieces_at : (n i : ℕ) (bytes : List ℕ) → i < n → get_or (pieces n bytes) i [] ≡ take 512 (drop (512 * i) bytes)
pieces_at zero i bytes lt = absurd (omega arith)
pieces_at (suc n) zero bytes lt = refl
pieces_at (suc n) (suc i) bytes lt =
    let more : 512 + 512 * i ≡ 512 * suc i = omega arith in
    pieces_at n i (drop 512 bytes) (omega arith) ∙ ap (take 512) (drop-drop (512 * i) 512 bytes ∙ ap (λ (k : ℕ). drop k bytes) more)

-- a range of sectors is written
pub image_overwritten : (now bytes : List ℕ) (s n : ℕ) → length bytes ≡ 512 * n → 512 * s + length bytes ≤ length now
    → image_of (take (512 * s) now ++ (bytes ++ drop (512 * s + length bytes) now)) ≡ put_all s (pieces n bytes) (image_of now)
image_overwritten now bytes s n size fits = λ i k. at k i
  where
    front : length (take (512 * s) now) ≡ 512 * s
    front = length-take-le (512 * s) now (omega arith)

    all : Image
    all = image_of (take (512 * s) now ++ (bytes ++ drop (512 * s + length bytes) now))

    inside : (k : ℕ) → s ≤ k → k < s + n → image_of (take (512 * s) now ++ (bytes ++ drop (512 * s + length bytes) now)) k ≡ put_all s (pieces n bytes) (image_of now) k
    inside k low high =
        let i = k - s in
        let is : k ≡ s + i = omega arith in
        ap (image_of (take (512 * s) now ++ (bytes ++ drop (512 * s + length bytes) now))) is
        ∙ within (take (512 * s) now) bytes (drop (512 * s + length bytes) now) s i front (omega arith)
        ∙ sym (ap (put_all s (pieces n bytes) (image_of now)) is ∙ put_all_within (pieces n bytes) s i (image_of now) (omega (arith, length-pieces n bytes)) ∙ pieces_at n i bytes (omega arith))

    at : (k : ℕ) → image_of (take (512 * s) now ++ (bytes ++ drop (512 * s + length bytes) now)) k ≡ put_all s (pieces n bytes) (image_of now) k
    at k = elim (cases_lt k s) [
      | inl lt ↦ below now (bytes ++ drop (512 * s + length bytes) now) s k lt (omega arith) ∙ sym (put_all_below (pieces n bytes) s k (image_of now) lt)
      | inr ge ↦ elim (cases_lt k (s + n)) [
        | inl inside_ ↦ inside k (omega arith) inside_
        | inr behind ↦ above (take (512 * s) now) bytes now (512 * s + length bytes) k (omega (arith, front)) (omega arith)
            ∙ sym (put_all_above (pieces n bytes) s k (image_of now) (omega (arith, length-pieces n bytes)))
      ]
    ]

-- a range of sectors is read
pub read_flat : (now : List ℕ) (n s : ℕ) → bytes_from (image_of now) s n ≡ take (512 * n) (drop (512 * s) now)
read_flat now zero s = refl
read_flat now (suc n) s =
    ap (λ (l : List ℕ). take 512 (drop (512 * s) now) ++ l) (read_flat now n (s + 1) ∙ ap (take (512 * n)) (ap (λ k. drop k now) (omega arith) ∙ sym (drop-drop 512 (512 * s) now)))
    ∙ sym (take_plus 512 (512 * n) (drop (512 * s) now)) ∙ ap (λ k. take k (drop (512 * s) now)) (omega arith)

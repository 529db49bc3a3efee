-- Bytes of a block of which some sectors are written.
use Rattle.std.proofs.Common.{◌≡◌, ℕ, zero, suc, ◌+◌, ◌*◌, ◌-◌, ◌<◌, ◌≤◌, ◌⊎◌, inl, inr, List, [], ◌∷◌, ◌++◌, length, take, drop, ap, sym, refl, ◌∙◌, subst, arith, length-append, length-drop}
use Rattle.std.specs.Prelude.{◌/◌, flat_map}
use Rattle.std.specs.List.{range_with_len}
use Rattle.std.proofs.lemmas.Bool.{cases_lt}
use Rattle.std.proofs.lemmas.List.{get_or_append_left, get_or-append_right, length-take-le, take-append-drop}
use Rattle.ufs_base.specs.Images.{Image}
use Rattle.ufs_disk.specs.Disk.{put, put_all, pieces, sectors_of, bytes_from, overwritten, Mixes}
use Rattle.ufs_disk.proofs.Images.{put_all_below, put_all_above, if_eq}
use Rattle.ufs_image.specs.Images.{block_at}
use Rattle.ufs_crash_laws.specs.FileChanges.{byte_at}
use Rattle.ufs_image.specs.Agree.{IsOfBlock}
use Rattle.ufs_ledger.specs.Ledger.{HasByte, IsMixOf}

pub byte_front : (xs ys : List ℕ) (place : ℕ) → place < length xs → byte_at (xs ++ ys) place ≡ byte_at xs place
byte_front xs ys place less = get_or_append_left xs ys 0 place less

pub byte_back : (xs ys : List ℕ) (n place : ℕ) → length xs ≡ n → n ≤ place → byte_at (xs ++ ys) place ≡ byte_at ys (place - n)
byte_back xs ys n place size from = get_or-append_right xs ys n place 0 size from

pub byte_taken : (bytes : List ℕ) (n place : ℕ) → n ≤ length bytes → place < n → byte_at bytes place ≡ byte_at (take n bytes) place
byte_taken bytes n place fits less =
    sym (ap (λ l. byte_at l place) (take-append-drop n bytes)) ∙ byte_front (take n bytes) (drop n bytes) place (let size = length-take-le n bytes fits in omega (arith, size, less))

byte_dropped : (bytes : List ℕ) (n place : ℕ) → n ≤ length bytes → n ≤ place → byte_at bytes place ≡ byte_at (drop n bytes) (place - n)
byte_dropped bytes n place fits from = sym (ap (λ l. byte_at l place) (take-append-drop n bytes)) ∙ byte_back (take n bytes) (drop n bytes) n place (length-take-le n bytes fits) from

-- each byte is the one before or the one written
pub record IsEither (n : ℕ) (old new bytes : List ℕ) : Type 0 where
  pub size : length bytes ≡ 512 * n
  pub each : (place : ℕ) → place < 512 * n → (byte_at bytes place ≡ byte_at old place) ⊎ (byte_at bytes place ≡ byte_at new place)

either_next : (n : ℕ) (old new here olds news rest : List ℕ) → length old ≡ 512 → length new ≡ 512 → (here ≡ old) ⊎ (here ≡ new) → IsEither n olds news rest → IsEither (suc n) (old ++ olds) (new ++ news) (here ++ rest)
either_next n old new here olds news rest long wide is more = record {
  size = let first = size_here is in let whole = length-append here rest in let last = more.size in omega (arith, first, whole, last);
  each = λ place less. at place less (cases_lt place 512);
}
  where
    size_here : (here ≡ old) ⊎ (here ≡ new) → length here ≡ 512
    size_here (inl e) = ap length e ∙ long
    size_here (inr e) = ap length e ∙ wide

    front : (place : ℕ) → place < 512 → (here ≡ old) ⊎ (here ≡ new) → (byte_at here place ≡ byte_at old place) ⊎ (byte_at here place ≡ byte_at new place)
    front place less (inl e) = inl (ap (λ l. byte_at l place) e)
    front place less (inr e) = inr (ap (λ l. byte_at l place) e)

    moved : (place : ℕ) (b c d : ℕ) → byte_at (here ++ rest) place ≡ b → byte_at (old ++ olds) place ≡ c → byte_at (new ++ news) place ≡ d → (b ≡ c) ⊎ (b ≡ d)
        → (byte_at (here ++ rest) place ≡ byte_at (old ++ olds) place) ⊎ (byte_at (here ++ rest) place ≡ byte_at (new ++ news) place)
    moved place b c d e f h (inl same) = inl (e ∙ same ∙ sym f)
    moved place b c d e f h (inr same) = inr (e ∙ same ∙ sym h)

    at : (place : ℕ) → place < 512 * suc n → (place < 512) ⊎ (512 ≤ place) → (byte_at (here ++ rest) place ≡ byte_at (old ++ olds) place) ⊎ (byte_at (here ++ rest) place ≡ byte_at (new ++ news) place)
    at place less (inl low) =
        let size = size_here is in
        moved place (byte_at here place) (byte_at old place) (byte_at new place) (byte_front here rest place (omega (arith, size, low))) (byte_front old olds place (omega (arith, long, low))) (byte_front new news place (omega (arith, wide, low))) (front place low is)
    at place less (inr high) =
        moved place (byte_at rest (place - 512)) (byte_at olds (place - 512)) (byte_at news (place - 512)) (byte_back here rest 512 place (size_here is) high) (byte_back old olds 512 place long high) (byte_back new news 512 place wide high)
        (more.each (place - 512) (omega (arith, less, high)))

abbrev IsMixedAt : ℕ → List (List ℕ) → Image → Image → Image → ℕ → Type 0
IsMixedAt s ps base before image k = (image k ≡ before k) ⊎ (image k ≡ put_all s ps base k)

either_block : (n s : ℕ) (bytes : List ℕ) (base before image : Image) → length bytes ≡ 512 * n → ((k : ℕ) → s ≤ k → k < s + n → length (before k) ≡ 512) → ((k : ℕ) → s ≤ k → k < s + n → IsMixedAt s (pieces n bytes) base before image k)
    → IsEither n (flat_map before (range_with_len s n)) bytes (flat_map image (range_with_len s n))
either_block zero s bytes base before image sized long mixed = record { size = refl; each = λ place less. absurd (omega (arith, less)) }
either_block (suc n) s bytes base before image sized long mixed =
    let fits : 512 ≤ length bytes = omega (arith, sized) in
    let left : length (drop 512 bytes) ≡ 512 * n = let is = length-drop 512 bytes in omega (arith, is, sized) in
    let first : put_all (s + 1) (pieces n (drop 512 bytes)) (put s (take 512 bytes) base) s ≡ take 512 bytes = put_all_below (pieces n (drop 512 bytes)) (s + 1) s (put s (take 512 bytes) base) (omega arith) ∙ if_eq s s (take 512 bytes) (base s) refl in
    let rest = either_block n (s + 1) (drop 512 bytes) (put s (take 512 bytes) base) before image left (λ k from under. long k (omega (arith, from)) (omega (arith, under))) (λ k from under. mixed k (omega (arith, from)) (omega (arith, under))) in
    let whole = either_next n (before s) (take 512 bytes) (image s) (flat_map before (range_with_len (s + 1) n)) (drop 512 bytes) (flat_map image (range_with_len (s + 1) n)) (long s (omega arith) (omega arith)) (length-take-le 512 bytes fits)
    (here (mixed s (omega arith) (omega arith)) first) rest in
    subst (λ all. IsEither (suc n) (before s ++ flat_map before (range_with_len (s + 1) n)) all (image s ++ flat_map image (range_with_len (s + 1) n))) (take-append-drop 512 bytes) whole
  where
    here : IsMixedAt s (pieces (suc n) bytes) base before image s → put_all (s + 1) (pieces n (drop 512 bytes)) (put s (take 512 bytes) base) s ≡ take 512 bytes → (image s ≡ before s) ⊎ (image s ≡ take 512 bytes)
    here (inl e) first = inl e
    here (inr e) first = inr (e ∙ first)

eight : (bytes : List ℕ) → length bytes ≡ 4096 → sectors_of bytes ≡ pieces 8 bytes
eight bytes size = ap (λ n. pieces n bytes) (let n : length bytes / 512 ≡ 8 = omega (arith, size) in n)

pub block_either : (block : ℕ) (bytes : List ℕ) (before image : Image) → length bytes ≡ 4096 → ((sector : ℕ) → IsOfBlock block sector → length (before sector) ≡ 512) → Mixes before (overwritten (8 * block) bytes before) image
    → IsEither 8 (block_at before block) bytes (block_at image block)
block_either block bytes before image size long mixed =
    either_block 8 (8 * block) bytes before before image size (λ k from under. long k (record { slot = k - 8 * block; in_block = omega (arith, from, under); same = omega (arith, from) }))
    (λ k from under. subst (λ ps. IsMixedAt (8 * block) ps before before image k) (eight bytes size) (mixed k))

-- a block that is written reads so
put_block : (n s : ℕ) (bytes : List ℕ) (base : Image) → length bytes ≡ 512 * n → flat_map (put_all s (pieces n bytes) base) (range_with_len s n) ≡ bytes
put_block zero s [] base sized = refl
put_block zero s (x ∷ bytes) base sized = absurd (omega (arith, sized))
put_block (suc n) s bytes base sized =
    let left : length (drop 512 bytes) ≡ 512 * n = let is = length-drop 512 bytes in omega (arith, is, sized) in
    let first : put_all (s + 1) (pieces n (drop 512 bytes)) (put s (take 512 bytes) base) s ≡ take 512 bytes = put_all_below (pieces n (drop 512 bytes)) (s + 1) s (put s (take 512 bytes) base) (omega arith) ∙ if_eq s s (take 512 bytes) (base s) refl in
    let rest = put_block n (s + 1) (drop 512 bytes) (put s (take 512 bytes) base) left in
    (λ i. first i ++ rest i) ∙ take-append-drop 512 bytes

pub overwritten_block : (block : ℕ) (bytes : List ℕ) (before : Image) → length bytes ≡ 4096 → block_at (overwritten (8 * block) bytes before) block ≡ bytes
overwritten_block block bytes before size = ap (λ ps. flat_map (put_all (8 * block) ps before) (range_with_len (8 * block) 8)) (eight bytes size) ∙ put_block 8 (8 * block) bytes before size

length-pieces : (n : ℕ) (bytes : List ℕ) → length (pieces n bytes) ≡ n
length-pieces zero bytes = refl
length-pieces (suc n) bytes = ap suc (length-pieces n (drop 512 bytes))

-- other sectors are as before
pub elsewhere : (block : ℕ) (bytes : List ℕ) (before image : Image) → length bytes ≡ 4096 → Mixes before (overwritten (8 * block) bytes before) image → (sector : ℕ) → (sector < 8 * block) ⊎ (8 * block + 8 ≤ sector) → before sector ≡ image sector
elsewhere block bytes before image size mixed sector at = by (mixed sector) at
  where
    by : (image sector ≡ before sector) ⊎ (image sector ≡ overwritten (8 * block) bytes before sector) → (sector < 8 * block) ⊎ (8 * block + 8 ≤ sector) → before sector ≡ image sector
    by (inl e) at = sym e
    by (inr e) (inl low) = sym (e ∙ put_all_below (sectors_of bytes) (8 * block) sector before low)
    by (inr e) (inr high) =
        let count : length (sectors_of bytes) ≡ 8 = ap length (eight bytes size) ∙ length-pieces 8 bytes in
        sym (e ∙ put_all_above (sectors_of bytes) (8 * block) sector before (omega (arith, count, high)))

-- ---- contents of a cell

pub has_byte_more : (xs ys : List (List ℕ)) (place byte : ℕ) → HasByte xs place byte → HasByte (xs ++ ys) place byte
has_byte_more [] ys place byte is = absurd is
has_byte_more (x ∷ xs) ys place byte (inl e) = inl e
has_byte_more (x ∷ xs) ys place byte (inr is) = inr (has_byte_more xs ys place byte is)

pub has_byte_last : (xs : List (List ℕ)) (y : List ℕ) (place byte : ℕ) → byte ≡ byte_at y place → HasByte (xs ++ y ∷ []) place byte
has_byte_last [] y place byte e = inl e
has_byte_last (x ∷ xs) y place byte e = inr (has_byte_last xs y place byte e)

pub mix_more : (xs ys : List (List ℕ)) (bytes : List ℕ) → IsMixOf xs bytes → IsMixOf (xs ++ ys) bytes
mix_more xs ys bytes is = record { size = is.size; each = λ place less. has_byte_more xs ys place (byte_at bytes place) (is.each place less) }

-- the new content is one of them, or is mixed in
pub mix_written : (xs : List (List ℕ)) (old new bytes : List ℕ) → IsMixOf xs old → IsEither 8 old new bytes → IsMixOf (xs ++ new ∷ []) bytes
mix_written xs old new bytes is either = record { size = either.size; each = λ place less. by place less (either.each place less) }
  where
    by : (place : ℕ) → place < 4096 → (byte_at bytes place ≡ byte_at old place) ⊎ (byte_at bytes place ≡ byte_at new place) → HasByte (xs ++ new ∷ []) place (byte_at bytes place)
    by place less (inl e) = subst (HasByte (xs ++ new ∷ []) place) (sym e) (has_byte_more xs (new ∷ []) place (byte_at old place) (is.each place less))
    by place less (inr e) = has_byte_last xs new place (byte_at bytes place) e

-- what a read of a block gives
pub read_bytes : (image : Image) (n s : ℕ) → bytes_from image s n ≡ flat_map image (range_with_len s n)
read_bytes image zero s = refl
read_bytes image (suc n) s = ap (λ rest. image s ++ rest) (read_bytes image n (s + 1))

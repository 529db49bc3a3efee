-- A slot of a sector is set: what its block's slots are then the spelling of.
use Rattle.std.proofs.Common.{◌≡◌, ◌≢◌, ℕ, zero, suc, ◌+◌, ◌*◌, ◌-◌, ◌<◌, ◌≤◌, ◌^◌, ◌⊎◌, inl, inr, List, ◌∷◌, ◌++◌, length, take, drop, set, Some, true, ap, sym, refl, ◌∙◌, arith, length-append, append_assoc}
use Rattle.std.specs.Prelude.{flat_map}
use Rattle.std.specs.List.{range_with_len}
use Rattle.std.proofs.Math.Seq.{take-add}
use Rattle.std.proofs.lemmas.List.{take_at, drop_at, drop-drop, length-take-le, length-drop, set-append_left, set-append_right}
use Rattle.ufs_layout.specs.Words.{pieces}
use Rattle.ufs_layout.specs.DentryForm.{DentryForm, dentry_bytes, dentry_fields, dentry_of, is_dentry}
use Rattle.ufs_image.specs.Images.{with_slot}
use Rattle.ufs_image.proofs.Lists.{flat_map-same}
use Rattle.ufs_image.proofs.Empty.{from_range}
use Rattle.ufs_layout.proofs.Spelled.{spelled-spelling}
use Rattle.ufs_layout.proofs.DentryForms.{dentry-back}

pub dentry-read : (d : DentryForm) → d.inode < 2 ^ 32 → is_dentry d ≡ true → dentry_of (dentry_bytes d) ≡ Some d
dentry-read d fits is = spelled-spelling dentry_fields dentry_bytes is_dentry d (dentry-back d fits) is

-- ---- pieces of 64

pub length-pieces : (n size : ℕ) (xs : List ℕ) → length (pieces n size xs) ≡ n
length-pieces zero size xs = refl
length-pieces (suc n) size xs = ap suc (length-pieces n size (drop size xs))

pub pieces-set : (n slot : ℕ) (xs bytes : List ℕ) → slot < n → 64 * n ≤ length xs → length bytes ≡ 64 → pieces n 64 (with_slot slot bytes xs) ≡ set (pieces n 64 xs) slot bytes
pieces-set zero slot xs bytes less room sized = absurd (omega (arith, less))
pieces-set (suc n) zero xs bytes less room sized = λ i. take_at bytes (drop 64 xs) 64 sized i ∷ pieces n 64 (drop_at bytes (drop 64 xs) 64 sized i)
pieces-set (suc n) (suc k) xs bytes less room sized =
    (λ i. take 64 (cut i) ∷ pieces n 64 (drop 64 (cut i))) ∙ (λ i. take_at (take 64 xs) rest 64 front i ∷ pieces n 64 (drop_at (take 64 xs) rest 64 front i))
    ∙ ap (λ ps. take 64 xs ∷ ps) (pieces-set n k (drop 64 xs) bytes (omega (arith, less)) (let left = length-drop 64 xs in omega (arith, left, room)) sized)
  where
    rest : List ℕ
    rest = with_slot k bytes (drop 64 xs)

    front : length (take 64 xs) ≡ 64
    front = length-take-le 64 xs (omega (arith, room))

    one : take (64 * suc k) xs ≡ take 64 xs ++ take (64 * k) (drop 64 xs)
    one = let at : 64 * suc k ≡ 64 + 64 * k = omega arith in ap (λ m. take m xs) at ∙ take-add 64 (64 * k) xs

    two : drop (64 * suc k + 64) xs ≡ drop (64 * k + 64) (drop 64 xs)
    two = let at : 64 * suc k + 64 ≡ 64 + (64 * k + 64) = omega arith in ap (λ m. drop m xs) at ∙ sym (drop-drop (64 * k + 64) 64 xs)

    cut : with_slot (suc k) bytes xs ≡ take 64 xs ++ with_slot k bytes (drop 64 xs)
    cut = (λ i. one i ++ bytes ++ two i)
        ∙ ap (λ ys. ys ++ drop (64 * k + 64) (drop 64 xs)) (append_assoc (take 64 xs) (take (64 * k) (drop 64 xs)) bytes)
        ∙ append_assoc (take 64 xs) (take (64 * k) (drop 64 xs) ++ bytes) (drop (64 * k + 64) (drop 64 xs))

pub length-with_slot : (slot : ℕ) (bytes xs : List ℕ) → slot < 8 → length xs ≡ 512 → length bytes ≡ 64 → length (with_slot slot bytes xs) ≡ 512
length-with_slot slot bytes xs less room sized =
    let front = length-take-le (64 * slot) xs (omega (arith, less, room)) in
    let back = length-drop (64 * slot + 64) xs in
    let two = length-append (take (64 * slot) xs) bytes in
    let all = length-append (take (64 * slot) xs ++ bytes) (drop (64 * slot + 64) xs) in
    omega (arith, front, back, two, all, sized, room, less)

-- ---- eight in each of a row

is_or_above : (a at : ℕ) → a ≤ at → (a ≡ at) ⊎ (a + 1 ≤ at)
is_or_above zero zero h = inl refl
is_or_above zero (suc at) h = inr (omega arith)
is_or_above (suc a) zero h = absurd (omega (arith, h))
is_or_above (suc a) (suc at) h = by (is_or_above a at (omega (arith, h)))
  where
    by : (a ≡ at) ⊎ (a + 1 ≤ at) → (suc a ≡ suc at) ⊎ (suc a + 1 ≤ suc at)
    by (inl e) = inl (ap suc e)
    by (inr f) = inr (omega (arith, f))

pub set_in_row : {X : Type 0} (f h : ℕ → List X) (a n at k : ℕ) (v : X) → a ≤ at → at < a + n → k < 8 → ((s : ℕ) → length (f s) ≡ 8) → ((s : ℕ) → s ≢ at → h s ≡ f s) → h at ≡ set (f at) k v
    → flat_map h (range_with_len a n) ≡ set (flat_map f (range_with_len a n)) (8 * (at - a) + k) v
set_in_row f h a zero at k v from under less each others here = absurd (omega (arith, from, under))
set_in_row {X} f h a (suc n) at k v from under less each others here = by (is_or_above a at from) (λ above. set_in_row f h (a + 1) n at k v above (omega (arith, under)) less each others here)
  where
    abbrev_rest : List X
    abbrev_rest = flat_map f (range_with_len (a + 1) n)

    by : (a ≡ at) ⊎ (a + 1 ≤ at) → (a + 1 ≤ at → flat_map h (range_with_len (a + 1) n) ≡ set (flat_map f (range_with_len (a + 1) n)) (8 * (at - (a + 1)) + k) v)
        → h a ++ flat_map h (range_with_len (a + 1) n) ≡ set (f a ++ flat_map f (range_with_len (a + 1) n)) (8 * (at - a) + k) v
    by (inl e) more =
        let place : 8 * (at - a) + k ≡ k = omega (arith, e) in
        let size = each a in
        let first : h a ≡ set (f a) k v = ap h e ∙ here ∙ ap (λ m. set (f m) k v) (sym e) in
        let rest : flat_map h (range_with_len (a + 1) n) ≡ flat_map f (range_with_len (a + 1) n) = flat_map-same h f (range_with_len (a + 1) n) (λ s is. let at' = (from_range (a + 1) n s is).0 in others s (λ same. omega (arith, same, e, at'))) in
        (λ i. first i ++ rest i) ∙ sym (set-append_left (f a) (flat_map f (range_with_len (a + 1) n)) k v (omega (arith, size, less))) ∙ ap (λ m. set (f a ++ flat_map f (range_with_len (a + 1) n)) m v) (sym place)
    by (inr above) more =
        let first : h a ≡ f a = others a (λ same. omega (arith, same, above)) in
        let rest = more above in
        let place : 8 * (at - a) + k - 8 ≡ 8 * (at - (a + 1)) + k = omega (arith, above) in
        (λ i. first i ++ rest i) ∙ ap (λ m. f a ++ set (flat_map f (range_with_len (a + 1) n)) m v) (sym place)
        ∙ sym (set-append_right (f a) (flat_map f (range_with_len (a + 1) n)) 8 (8 * (at - a) + k) v (each a) (omega (arith, above)))

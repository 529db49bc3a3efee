-- A block of a list of runs by its place, and a cut before it.
use Rattle.std.proofs.Common.{◌≡◌, ℕ, zero, suc, ◌+◌, ◌-◌, ◌<◌, ◌≤◌, leb, Bool, true, false, cond, List, [], ◌∷◌, ◌++◌, None, Some, length, set, take, drop, refl, sym, ap, ◌∙◌, arith, subst, ⊎_elim, append_assoc}
use Rattle.std.specs.Prelude.{slice_get, All}
use Rattle.std.proofs.Math.Seq.{take-append-add, drop-append-add}
use Rattle.std.proofs.lemmas.List.{append-nil, take_at, drop_at, take_all, drop_all, drop_more}
use Rattle.std.proofs.lemmas.List.Sums.{sum_by-cons}
use Rattle.std.proofs.lemmas.Bool.{ne_eqb}
use Rattle.std.proofs.lemmas.Bool.Decides.{leb_tells}
use Rattle.std.proofs.lemmas.Option.{same_Some, none-some, slice_get_past, slice_get_within, get_or_from_slice_get}
use Rattle.std.proofs.lemmas.List.Elements.{All-get_or, All-cons, All-drop}
use Rattle.ufs_extent.specs.declared.Run.{Run}
use Rattle.ufs_extent.specs.Runs.{IsRun, blocks_from, blocks_in, blocks_of, first_runs, last_runs}
use Rattle.ufs_extent.specs.Places.{block_count, IsPlace, front_of, without_first}
use Rattle.ufs_extent.proofs.RunLemmas.{length-blocks_from, length-blocks_of, blocks_from-add}

slice_get_left : (xs ys : List ℕ) (n : ℕ) → n < length xs → slice_get (xs ++ ys) n ≡ slice_get xs n
slice_get_left [] ys n h = absurd (omega (arith, h))
slice_get_left (x ∷ xs) ys zero h = refl
slice_get_left (x ∷ xs) ys (suc n) h = slice_get_left xs ys n (omega arith)

slice_get_right : (xs ys : List ℕ) (n : ℕ) → slice_get (xs ++ ys) (length xs + n) ≡ slice_get ys n
slice_get_right [] ys n = let e : zero + n ≡ n = omega arith in rw e refl
slice_get_right (x ∷ xs) ys n = let e : suc (length xs) + n ≡ suc (length xs + n) = omega arith in rw e (slice_get_right xs ys n)

slice_get-blocks_from : (first n k : ℕ) → k < n → slice_get (blocks_from first n) k ≡ Some (first + k)
slice_get-blocks_from first zero k h = absurd (omega (arith, h))
slice_get-blocks_from first (suc n) zero h = let e : first ≡ first + zero = omega arith in ap (λ (b : ℕ). Some b) e
slice_get-blocks_from first (suc n) (suc k) h =
    let e : first + 1 + k ≡ first + suc k = omega arith in
    slice_get-blocks_from (first + 1) n k (omega arith) ∙ ap (λ (b : ℕ). Some b) e

block_count-cons : (r : Run) (rs : List Run) → block_count (r ∷ rs) ≡ r.length + block_count rs
block_count-cons r rs = sum_by-cons (λ (x : Run). x.length) r rs

pub block_at : (xs : List Run) (n at : ℕ) (run : Run) (before : ℕ) → IsPlace xs n at run before → slice_get (blocks_of xs) n ≡ Some (run.start + before)
block_at [] n at run before p = absurd (none-some run p.there)
block_at (x ∷ xs) n zero run before p =
    let same : x ≡ run = same_Some x run p.there in
    let c : before ≡ n = omega (arith, p.counted) in
    let l : n < length (blocks_in run) = omega (arith, p.inside, c, length-blocks_from run.start run.length) in
    let m : n < run.length = omega (arith, p.inside, c) in
    ap (λ (y : Run). slice_get (blocks_in y ++ blocks_of xs) n) same
    ∙ slice_get_left (blocks_in run) (blocks_of xs) n l
    ∙ slice_get-blocks_from run.start run.length n m
    ∙ ap (λ (k : ℕ). Some (run.start + k)) (sym c)
block_at (x ∷ xs) n (suc at) run before p =
    let c : n ≡ length (blocks_in x) + (block_count (take at xs) + before) = omega (arith, p.counted, block_count-cons x (take at xs), length-blocks_from x.start x.length) in
    ap (λ (k : ℕ). slice_get (blocks_in x ++ blocks_of xs) k) c
    ∙ slice_get_right (blocks_in x) (blocks_of xs) (block_count (take at xs) + before)
    ∙ block_at xs (block_count (take at xs) + before) at run before (record { there = p.there; counted = refl; inside = p.inside })

pub no_block_at : (xs : List Run) (n : ℕ) → block_count xs ≤ n → slice_get (blocks_of xs) n ≡ None
no_block_at xs n h = slice_get_past (blocks_of xs) n (omega (arith, h, length-blocks_of xs))

-- ---- a cut
is_leb : (a b : ℕ) → a ≤ b → leb a b ≡ true
is_leb a b h = ⊎_elim (λ (e : (leb a b ≡ true) × (a ≤ b)). e.0) (λ (e : (leb a b ≡ false) × (b < a)). absurd (omega (arith, h, e.1))) (leb_tells a b)

no_leb : (a b : ℕ) → b < a → leb a b ≡ false
no_leb a b h = ⊎_elim (λ (e : (leb a b ≡ true) × (a ≤ b)). absurd (omega (arith, h, e.1))) (λ (e : (leb a b ≡ false) × (b < a)). e.0) (leb_tells a b)

first_whole : (x : Run) (xs : List Run) (n : ℕ) → x.length ≤ n → first_runs (x ∷ xs) n ≡ x ∷ first_runs xs (n - x.length)
first_whole x xs n h = ap (λ (b : Bool). cond b (x ∷ first_runs xs (n - x.length)) (front_of x n)) (is_leb x.length n h)

first_part : (x : Run) (xs : List Run) (n : ℕ) → n < x.length → first_runs (x ∷ xs) n ≡ front_of x n
first_part x xs n h = ap (λ (b : Bool). cond b (x ∷ first_runs xs (n - x.length)) (front_of x n)) (no_leb x.length n h)

last_whole : (x : Run) (xs : List Run) (n : ℕ) → x.length ≤ n → last_runs (x ∷ xs) n ≡ last_runs xs (n - x.length)
last_whole x xs n h = ap (λ (b : Bool). cond b (last_runs xs (n - x.length)) (without_first x n ∷ xs)) (is_leb x.length n h)

last_part : (x : Run) (xs : List Run) (n : ℕ) → n < x.length → last_runs (x ∷ xs) n ≡ without_first x n ∷ xs
last_part x xs n h = ap (λ (b : Bool). cond b (last_runs xs (n - x.length)) (without_first x n ∷ xs)) (no_leb x.length n h)

pub first_runs-all : (xs : List Run) (n : ℕ) → block_count xs ≤ n → first_runs xs n ≡ xs
first_runs-all [] n h = refl
first_runs-all (x ∷ xs) n h =
    first_whole x xs n (omega (arith, h, block_count-cons x xs))
    ∙ ap (λ (zs : List Run). x ∷ zs) (first_runs-all xs (n - x.length) (omega (arith, h, block_count-cons x xs)))

pub last_runs-all : (xs : List Run) (n : ℕ) → block_count xs ≤ n → last_runs xs n ≡ []
last_runs-all [] n h = refl
last_runs-all (x ∷ xs) n h =
    last_whole x xs n (omega (arith, h, block_count-cons x xs))
    ∙ last_runs-all xs (n - x.length) (omega (arith, h, block_count-cons x xs))

tail_place : (x : Run) (xs : List Run) (n at : ℕ) (run : Run) (before : ℕ) → IsPlace (x ∷ xs) n (suc at) run before → IsPlace xs (n - x.length) at run before × (x.length ≤ n)
tail_place x xs n at run before p =
    (record { there = p.there; counted = omega (arith, p.counted, block_count-cons x (take at xs)); inside = p.inside }, omega (arith, p.counted, block_count-cons x (take at xs)))

pub first_runs-place : (xs : List Run) (n at : ℕ) (run : Run) (before : ℕ) → IsPlace xs n at run before → first_runs xs n ≡ take at xs ++ front_of run before
first_runs-place [] n at run before p = absurd (none-some run p.there)
first_runs-place (x ∷ xs) n zero run before p =
    let same : x ≡ run = same_Some x run p.there in
    let c : n ≡ before = omega (arith, p.counted) in
    let l : n < x.length = omega (arith, p.inside, c, ap (λ (r : Run). r.length) same) in
    first_part x xs n l ∙ ap (λ (r : Run). front_of r n) same ∙ ap (λ (k : ℕ). front_of run k) c
first_runs-place (x ∷ xs) n (suc at) run before p =
    let (q, l) = tail_place x xs n at run before p in
    first_whole x xs n l ∙ ap (λ (zs : List Run). x ∷ zs) (first_runs-place xs (n - x.length) at run before q)

pub last_runs-place : (xs : List Run) (n at : ℕ) (run : Run) (before : ℕ) → IsPlace xs n at run before → last_runs xs n ≡ without_first run before ∷ drop (at + 1) xs
last_runs-place [] n at run before p = absurd (none-some run p.there)
last_runs-place (x ∷ xs) n zero run before p =
    let same : x ≡ run = same_Some x run p.there in
    let c : n ≡ before = omega (arith, p.counted) in
    let l : n < x.length = omega (arith, p.inside, c, ap (λ (r : Run). r.length) same) in
    last_part x xs n l ∙ ap (λ (r : Run). without_first r n ∷ xs) same ∙ ap (λ (k : ℕ). without_first run k ∷ xs) c
last_runs-place (x ∷ xs) n (suc at) run before p =
    let (q, l) = tail_place x xs n at run before p in
    let e : suc at + 1 ≡ suc (at + 1) = omega arith in
    last_whole x xs n l ∙ last_runs-place xs (n - x.length) at run before q ∙ ap (λ (k : ℕ). without_first run before ∷ drop k (x ∷ xs)) (sym e)

-- ---- the blocks on both sides of a cut
front_split : (r : Run) (n : ℕ) → n < r.length → blocks_in r ≡ blocks_from r.start n ++ blocks_in (without_first r n)
front_split r n h =
    let e : r.length ≡ n + (r.length - n) = omega arith in
    ap (λ (k : ℕ). blocks_from r.start k) e ∙ blocks_from-add r.start n (r.length - n)

blocks_of-front_of : (r : Run) (n : ℕ) → blocks_of (front_of r n) ≡ blocks_from r.start n
blocks_of-front_of r zero = refl
blocks_of-front_of r (suc n) =
    ap (λ (b : Bool). blocks_of (cond b [] ((record { start = r.start; length = suc n }) ∷ []))) (ne_eqb (suc n) 0 (λ e. omega (arith, e)))
    ∙ append-nil (blocks_from r.start (suc n))

module _ (x : Run) (rest : List ℕ) (n : ℕ) where
  take_whole : x.length ≤ n → take n (blocks_in x ++ rest) ≡ blocks_in x ++ take (n - x.length) rest
  take_whole h =
      let e : n ≡ length (blocks_in x) + (n - x.length) = omega (arith, h, length-blocks_from x.start x.length) in
      ap (λ (k : ℕ). take k (blocks_in x ++ rest)) e ∙ take-append-add (blocks_in x) rest (n - x.length)

  drop_whole : x.length ≤ n → drop n (blocks_in x ++ rest) ≡ drop (n - x.length) rest
  drop_whole h =
      let e : n ≡ length (blocks_in x) + (n - x.length) = omega (arith, h, length-blocks_from x.start x.length) in
      ap (λ (k : ℕ). drop k (blocks_in x ++ rest)) e ∙ drop-append-add (blocks_in x) rest (n - x.length)

  in_parts : n < x.length → blocks_in x ++ rest ≡ blocks_from x.start n ++ (blocks_in (without_first x n) ++ rest)
  in_parts h = ap (λ (bs : List ℕ). bs ++ rest) (front_split x n h) ∙ append_assoc (blocks_from x.start n) (blocks_in (without_first x n)) rest

  take_part : n < x.length → take n (blocks_in x ++ rest) ≡ blocks_from x.start n
  take_part h = ap (λ (bs : List ℕ). take n bs) (in_parts h) ∙ take_at (blocks_from x.start n) (blocks_in (without_first x n) ++ rest) n (length-blocks_from x.start n)

  drop_part : n < x.length → drop n (blocks_in x ++ rest) ≡ blocks_in (without_first x n) ++ rest
  drop_part h = ap (λ (bs : List ℕ). drop n bs) (in_parts h) ∙ drop_at (blocks_from x.start n) (blocks_in (without_first x n) ++ rest) n (length-blocks_from x.start n)

module _ (x : Run) (xs : List Run) (n : ℕ) where
  first_blocks : blocks_of (first_runs xs (n - x.length)) ≡ take (n - x.length) (blocks_of xs) → blocks_of (first_runs (x ∷ xs) n) ≡ take n (blocks_of (x ∷ xs))
  first_blocks rest = ⊎_elim whole part (leb_tells x.length n) where
    whole : (leb x.length n ≡ true) × (x.length ≤ n) → blocks_of (first_runs (x ∷ xs) n) ≡ take n (blocks_of (x ∷ xs))
    whole h = ap blocks_of (first_whole x xs n h.1) ∙ ap (λ (bs : List ℕ). blocks_in x ++ bs) rest ∙ sym (take_whole x (blocks_of xs) n h.1)

    part : (leb x.length n ≡ false) × (n < x.length) → blocks_of (first_runs (x ∷ xs) n) ≡ take n (blocks_of (x ∷ xs))
    part h = ap blocks_of (first_part x xs n h.1) ∙ blocks_of-front_of x n ∙ sym (take_part x (blocks_of xs) n h.1)

  last_blocks : blocks_of (last_runs xs (n - x.length)) ≡ drop (n - x.length) (blocks_of xs) → blocks_of (last_runs (x ∷ xs) n) ≡ drop n (blocks_of (x ∷ xs))
  last_blocks rest = ⊎_elim whole part (leb_tells x.length n) where
    whole : (leb x.length n ≡ true) × (x.length ≤ n) → blocks_of (last_runs (x ∷ xs) n) ≡ drop n (blocks_of (x ∷ xs))
    whole h = ap blocks_of (last_whole x xs n h.1) ∙ rest ∙ sym (drop_whole x (blocks_of xs) n h.1)

    part : (leb x.length n ≡ false) × (n < x.length) → blocks_of (last_runs (x ∷ xs) n) ≡ drop n (blocks_of (x ∷ xs))
    part h = ap blocks_of (last_part x xs n h.1) ∙ sym (drop_part x (blocks_of xs) n h.1)

pub blocks_of-first_runs : (xs : List Run) (n : ℕ) → blocks_of (first_runs xs n) ≡ take n (blocks_of xs)
blocks_of-first_runs [] n = sym (take_all n [] (omega arith))
blocks_of-first_runs (x ∷ xs) n = first_blocks x xs n (blocks_of-first_runs xs (n - x.length))

pub blocks_of-last_runs : (xs : List Run) (n : ℕ) → blocks_of (last_runs xs n) ≡ drop n (blocks_of xs)
blocks_of-last_runs [] n = sym (drop_all n [] (omega arith))
blocks_of-last_runs (x ∷ xs) n = last_blocks x xs n (blocks_of-last_runs xs (n - x.length))

-- ---- conditions on the parts
pub IsRun-at : (xs : List Run) (at : ℕ) (run : Run) → All IsRun xs → slice_get xs at ≡ Some run → IsRun run
IsRun-at xs at run all there =
    subst IsRun (get_or_from_slice_get xs at run run there) (All-get_or IsRun xs at run (slice_get_within xs at run there) all)

-- the runs from a place on, the first of them without its first blocks
pub set-drop : (xs : List Run) (at : ℕ) (run r : Run) → slice_get xs at ≡ Some run → set (drop at xs) 0 r ≡ r ∷ drop (at + 1) xs
set-drop xs at run r there = ap (λ (zs : List Run). set zs 0 r) (drop_more xs at run (slice_get_within xs at run there))

pub All-without_first : (xs : List Run) (at : ℕ) (run : Run) (n : ℕ) → All IsRun xs → slice_get xs at ≡ Some run → n < run.length → All IsRun (without_first run n ∷ drop (at + 1) xs)
All-without_first xs at run n all there h =
    let is : IsRun run = IsRun-at xs at run all there in
    All-cons IsRun (without_first run n) (drop (at + 1) xs) (omega (arith, h, is), omega (arith, h, is)) (All-drop IsRun (at + 1) xs all)

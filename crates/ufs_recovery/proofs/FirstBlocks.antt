-- The extents of a file's first blocks.
use Rattle.std.proofs.Common.{◌≡◌, ℕ, zero, suc, ◌+◌, ◌-◌, ◌≤◌, ◌<◌, List, [], ◌∷◌, ◌++◌, Bool, true, false, length, take, Some, ap, sym, refl, ◌∙◌, get_or, arith, length-append}
use Rattle.std.specs.Prelude.{flat_map, ◌==◌, ◌&&◌, ◌||◌, not, min, if◌then◌else◌, nat_le}
use Rattle.std.specs.List.{slice_get, range_with_len, list_all, AllByRecursion}
use Rattle.std.proofs.lemmas.Bool.{eqb-true}
use Rattle.std.proofs.lemmas.Bool.Decides.{nat_tests}
use Rattle.std.proofs.lemmas.Grind.{flat_map-append}
use Rattle.std.proofs.lemmas.List.{append-nil, take_more}
use Rattle.std.proofs.lemmas.List.Folds.{list_all-append}
use Rattle.std.proofs.lemmas.List.FromFn.{length-range_with_len}
use Rattle.ufs_disk.proofs.Runs.{all_append}
use Rattle.ufs_layout.specs.InodeForm.{InodeForm, is_extent, is_inode}
use Rattle.ufs_layout.specs.declared.geometry.Geometry.{Geometry}
use Rattle.ufs_layout.specs.declared.inode.Extent.{Extent}
use Rattle.ufs_image.specs.Sound.{IsInData}
use Rattle.ufs_recovery.specs.Fitted.{first_part, first_extents}

-- ---- lists

pub at_taken : {X : Type 0} (n : ℕ) (xs : List X) (p : ℕ) (x : X) → slice_get (take n xs) p ≡ Some x → slice_get xs p ≡ Some x
at_taken zero xs p x is = let no = is in cc
at_taken (suc n) [] p x is = let no = is in cc
at_taken (suc n) (y ∷ xs) zero x is = is
at_taken (suc n) (y ∷ xs) (suc p) x is = at_taken n xs p x is

take_none : (n : ℕ) → take {A = ℕ} n [] ≡ []
take_none zero = refl
take_none (suc n) = refl

take_both : (xs ys : List ℕ) (n : ℕ) → take n (xs ++ ys) ≡ take n xs ++ take (n - length xs) ys
take_both [] ys n = let e : n - 0 ≡ n = omega arith in ap (λ k. take k ys) (sym e) ∙ ap (λ l. l ++ take (n - 0) ys) (sym (take_none n))
take_both (x ∷ xs) ys zero = let e : 0 - length (x ∷ xs) ≡ 0 = omega arith in ap (λ k. take k ys) (sym e)
take_both (x ∷ xs) ys (suc n) = let e : suc n - length (x ∷ xs) ≡ n - length xs = omega arith in ap (λ l. x ∷ l) (take_both xs ys n) ∙ ap (λ k. x ∷ (take n xs ++ take k ys)) (sym e)

take_range : (a m n : ℕ) → take n (range_with_len a m) ≡ range_with_len a (min m n)
take_range a zero n = let e : min 0 n ≡ 0 = omega arith in take_none n ∙ ap (range_with_len a) (sym e)
take_range a (suc m) zero = let e : min (suc m) 0 ≡ 0 = omega arith in ap (range_with_len a) (sym e)
take_range a (suc m) (suc n) = let e : min (suc m) (suc n) ≡ suc (min m n) = omega arith in ap (λ l. a ∷ l) (take_range (a + 1) m n) ∙ ap (range_with_len a) (sym e)

-- ---- extents

abbrev pub blocks_in : List Extent → List ℕ
blocks_in es = flat_map (λ (e : Extent). range_with_len e.start e.length) es

part_blocks : (e : Extent) (n : ℕ) → blocks_in (first_part e n) ≡ range_with_len e.start (min e.length n)
part_blocks e n = by (min e.length n == 0) refl
  where
    by : (b : Bool) → (min e.length n == 0) ≡ b → blocks_in (if b then [] else (record { start = e.start; length = min e.length n }) ∷ []) ≡ range_with_len e.start (min e.length n)
    by true t = let none : min e.length n ≡ 0 = eqb-true (min e.length n) 0 t in ap (range_with_len e.start) (sym none)
    by false t = append-nil (range_with_len e.start (min e.length n))

pub first_blocks : (es : List Extent) (n : ℕ) → blocks_in (first_extents es n) ≡ take n (blocks_in es)
first_blocks [] n = sym (take_none n)
first_blocks (e ∷ es) n =
    flat_map-append (λ (x : Extent). range_with_len x.start x.length) (first_part e n) (first_extents es (n - e.length))
    ∙ (λ i. (part_blocks e n ∙ sym (take_range e.start e.length n)) i ++ first_blocks es (n - e.length) i)
    ∙ ap (λ k. take n (range_with_len e.start e.length) ++ take (n - k) (blocks_in es)) (sym (length-range_with_len e.start e.length))
    ∙ sym (take_both (range_with_len e.start e.length) (blocks_in es) n)

pub first_in_data : (g : Geometry) (es : List Extent) (n : ℕ) → AllByRecursion (IsInData g) es → AllByRecursion (IsInData g) (first_extents es n)
first_in_data g [] n all = tt
first_in_data g (e ∷ es) n all = all_append (IsInData g) (first_part e n) (first_extents es (n - e.length)) (by (min e.length n == 0)) (first_in_data g es (n - e.length) all.1)
  where
    by : (b : Bool) → AllByRecursion (IsInData g) (if b then [] else (record { start = e.start; length = min e.length n }) ∷ [])
    by true = tt
    by false = (record { start = all.0.start; end = let end = all.0.end in omega (arith, end) }, tt)

all_both : (xs ys : List Extent) → list_all is_extent xs ≡ true → list_all is_extent ys ≡ true → list_all is_extent (xs ++ ys) ≡ true
all_both xs ys a b = list_all-append is_extent xs ys ∙ (λ i. a i && b i)

pub first_whole : (es : List Extent) (n : ℕ) → list_all is_extent (first_extents es n) ≡ true
first_whole [] n = refl
first_whole (e ∷ es) n = all_both (first_part e n) (first_extents es (n - e.length)) (by (min e.length n == 0) refl) (first_whole es (n - e.length))
  where
    by : (b : Bool) → (min e.length n == 0) ≡ b → list_all is_extent (if b then [] else (record { start = e.start; length = min e.length n }) ∷ []) ≡ true
    by true t = refl
    by false t = grind (arith, nat_tests, t)

pub first_few : (es : List Extent) (n : ℕ) → length (first_extents es n) ≤ length es
first_few [] n = omega arith
first_few (e ∷ es) n =
    let rest = first_few es (n - e.length) in
    let part = by (min e.length n == 0) in
    let whole = length-append (first_part e n) (first_extents es (n - e.length)) in omega (arith, rest, part, whole)
  where
    by : (b : Bool) → length {A = Extent} (if b then [] else (record { start = e.start; length = min e.length n }) ∷ []) ≤ 1
    by true = omega arith
    by false = omega arith

-- ---- one extent more

pub blocks_more : (es : List Extent) (i : ℕ) (d : Extent) → i < length es → length (blocks_in (take (i + 1) es)) ≡ length (blocks_in (take i es)) + (get_or es i d).length
blocks_more es i d less =
    ap (λ (l : List Extent). length (blocks_in l)) (take_more es i d less)
    ∙ ap length (flat_map-append (λ (e : Extent). range_with_len e.start e.length) (take i es) (get_or es i d ∷ []) ∙ ap (λ l. blocks_in (take i es) ++ l) (append-nil (range_with_len (get_or es i d).start (get_or es i d).length)))
    ∙ length-append (blocks_in (take i es)) (range_with_len (get_or es i d).start (get_or es i d).length)
    ∙ ap (λ n. length (blocks_in (take i es)) + n) (length-range_with_len (get_or es i d).start (get_or es i d).length)

-- ---- the inode

pub short_form : (form : InodeForm) (n : ℕ) → form.kind ≡ 1 → length form.extents ≤ 56 → is_inode (record form { extents = first_extents form.extents n }) ≡ true
short_form form n file few =
    let least = first_few form.extents n in
    let fits : nat_le (length (first_extents form.extents n)) 56 ≡ true = grind (arith, nat_tests, least, few) in
    (λ i. nat_le (file i) 2 && (fits i && (first_whole form.extents n i && (not (file i == 0) || (length (first_extents form.extents n) == 0 && form.size == 0)))))

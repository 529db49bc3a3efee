-- Sets of blocks: what they have after a run came or went.
use Rattle.std.proofs.Common.{◌≡◌, ◌≢◌, ℕ, zero, suc, ◌+◌, ◌-◌, ◌<◌, ◌≤◌, eqb, ltb, leb, Bool, true, false, not, ◌&&◌, ◌||◌, cond, List, [], ◌∷◌, length, refl, sym, ap, ◌∙◌, arith, inl, inr, ⊎_elim, ◌⊎◌}
use Rattle.std.specs.Ordering.{nat_cmp}
use Rattle.std.specs.Cmp.{nat_cmp_total, unsigned_tied}
use Rattle.std.specs.FinSet as set
use Rattle.std.proofs.lemmas.Bool.{true≢false, leb-true, ltb-true}
use Rattle.std.proofs.lemmas.Bool.Decides.{eqb_tells, leb_tells, nat_tests}
use Rattle.ufs_extent.specs.declared.Run.{Run}
use Rattle.ufs_extent.specs.Runs.{blocks_from, end_of}
use Rattle.ufs_bitmap.specs.Blocks.{BlockSet, run_set, HoldsAll, HoldsNone}

pub same_blocks : (s t : BlockSet) → ((q : ℕ) → set.contains s q ≡ set.contains t q) → s ≡ t
same_blocks = set.same_set nat_cmp_total set.nat_cmp-IsAntisymmetric

pub has-insert : (s : BlockSet) (k q : ℕ) → set.contains (set.insert s k) q ≡ (eqb q k || set.contains s q)
has-insert s k q = set.contains-insert nat_cmp_total s k q ∙ ap (λ (b : Bool). b || set.contains s q) (unsigned_tied q k)

pub has-remove : (s : BlockSet) (k q : ℕ) → set.contains (set.remove s k) q ≡ (not (eqb q k) && set.contains s q)
has-remove s k q = set.contains-remove nat_cmp_total s k q ∙ ap (λ (b : Bool). not b && set.contains s q) (unsigned_tied q k)

pub has-union : (s t : BlockSet) (q : ℕ) → set.contains (set.union s t) q ≡ (set.contains s q || set.contains t q)
has-union = set.contains-union nat_cmp_total

pub has-difference : (s t : BlockSet) (q : ℕ) → set.contains (set.difference s t) q ≡ (set.contains s q && not (set.contains t q))
has-difference = set.contains-difference nat_cmp_total

pub has-empty : (q : ℕ) → set.contains (set.empty {R = nat_cmp}) q ≡ false
has-empty q = set.contains-empty nat_cmp q

-- ---- from a block up to another
abbrev pub between : ℕ → ℕ → ℕ → Bool
between a e q = leb a q && ltb q e

pub between_in : (a e q : ℕ) → a ≤ q → q < e → between a e q ≡ true
between_in a e q h k = grind (arith, nat_tests)

pub between_below : (a e q : ℕ) → q < a → between a e q ≡ false
between_below a e q h = grind (arith, nat_tests)

pub between_above : (a e q : ℕ) → e ≤ q → between a e q ≡ false
between_above a e q h = grind (arith, nat_tests)

and_left : (x y : Bool) → (x && y) ≡ true → x ≡ true
and_left true y h = refl
and_left false y h = h

and_right : (x y : Bool) → (x && y) ≡ true → y ≡ true
and_right true y h = h
and_right false y h = absurd (true≢false (sym h))

pub between_tells : (a e q : ℕ) → between a e q ≡ true → (a ≤ q) × (q < e)
between_tells a e q h = (leb-true a q (and_left (leb a q) (ltb q e) h), ltb-true q e (and_right (leb a q) (ltb q e) h))

pub between_not : (n q : ℕ) → between 0 (0 + n) q ≡ false → n ≤ q
between_not n q h =
    ⊎_elim (λ (e : (leb n q ≡ true) × (n ≤ q)). e.1)
    (λ (e : (leb n q ≡ false) × (q < n)). absurd (true≢false (sym (between_in 0 (0 + n) q (omega arith) (omega (arith, e.1))) ∙ h)))
    (leb_tells n q)

pub and-true : (x : Bool) → x ≡ (x && true)
and-true true = refl
and-true false = refl

pub and-false : (x : Bool) → false ≡ (x && false)
and-false true = refl
and-false false = refl

pub between_none : (a q : ℕ) → false ≡ between a (a + 0) q
between_none a q = grind (arith, nat_tests)

pub between_first : (a n q : ℕ) → (eqb q a || between (a + 1) (a + 1 + n) q) ≡ between a (a + suc n) q
between_first a n q = grind (arith, nat_tests)

between_last : (a n q : ℕ) → between a (a + (n + 1)) q ≡ (eqb q (a + n) || between a (a + n) q)
between_last a n q = grind (arith, nat_tests)

pub has-blocks_from : (a n q : ℕ) → set.contains (set.from_list {R = nat_cmp} (blocks_from a n)) q ≡ between a (a + n) q
has-blocks_from a zero q = has-empty q ∙ between_none a q
has-blocks_from a (suc n) q =
    has-insert (set.from_list (blocks_from (a + 1) n)) a q
    ∙ ap (λ (b : Bool). eqb q a || b) (has-blocks_from (a + 1) n q)
    ∙ between_first a n q

-- ---- one block more of a run
or_out : (x y z : Bool) → (x || (y || z)) ≡ (y || (x || z))
or_out true true z = refl
or_out true false z = refl
or_out false y z = refl

and_out : (x y z : Bool) → (x && not (y || z)) ≡ (not y && (x && not z))
and_out true true z = refl
and_out true false z = refl
and_out false true z = refl
and_out false false z = refl

abbrev first_blocks : ℕ → ℕ → BlockSet
first_blocks a n = set.from_list (blocks_from a n)

has-more : (a n q : ℕ) → set.contains (first_blocks a (n + 1)) q ≡ (eqb q (a + n) || set.contains (first_blocks a n) q)
has-more a n q = has-blocks_from a (n + 1) q ∙ between_last a n q ∙ ap (λ (b : Bool). eqb q (a + n) || b) (sym (has-blocks_from a n q))

pub union_more : (s : BlockSet) (a n : ℕ) → set.union s (first_blocks a (n + 1)) ≡ set.insert (set.union s (first_blocks a n)) (a + n)
union_more s a n = same_blocks _ _ (λ q.
    has-union s (first_blocks a (n + 1)) q
    ∙ ap (λ (b : Bool). set.contains s q || b) (has-more a n q)
    ∙ or_out (set.contains s q) (eqb q (a + n)) (set.contains (first_blocks a n) q)
    ∙ ap (λ (b : Bool). eqb q (a + n) || b) (sym (has-union s (first_blocks a n) q))
    ∙ sym (has-insert (set.union s (first_blocks a n)) (a + n) q))

pub difference_more : (s : BlockSet) (a n : ℕ) → set.difference s (first_blocks a (n + 1)) ≡ set.remove (set.difference s (first_blocks a n)) (a + n)
difference_more s a n = same_blocks _ _ (λ q.
    has-difference s (first_blocks a (n + 1)) q
    ∙ ap (λ (b : Bool). set.contains s q && not b) (has-more a n q)
    ∙ and_out (set.contains s q) (eqb q (a + n)) (set.contains (first_blocks a n) q)
    ∙ ap (λ (b : Bool). not (eqb q (a + n)) && b) (sym (has-difference s (first_blocks a n) q))
    ∙ sym (has-remove (set.difference s (first_blocks a n)) (a + n) q))

or_false : (x : Bool) → x ≡ (x || false)
or_false true = refl
or_false false = refl

and_true : (x : Bool) → x ≡ (x && not false)
and_true true = refl
and_true false = refl

pub union_none : (s : BlockSet) (a : ℕ) → s ≡ set.union s (first_blocks a 0)
union_none s a = same_blocks _ _ (λ q. or_false _ ∙ ap (λ (b : Bool). set.contains s q || b) (sym (has-empty q)) ∙ sym (has-union s (first_blocks a 0) q))

pub difference_none : (s : BlockSet) (a : ℕ) → s ≡ set.difference s (first_blocks a 0)
difference_none s a = same_blocks _ _ (λ q. and_true _ ∙ ap (λ (b : Bool). set.contains s q && not b) (sym (has-empty q)) ∙ sym (has-difference s (first_blocks a 0) q))

pub empty_union : (s : BlockSet) → set.union (set.empty {R = nat_cmp}) s ≡ s
empty_union s = same_blocks _ _ (λ q. has-union set.empty s q ∙ ap (λ (b : Bool). b || set.contains s q) (has-empty q))

-- the block behind those that came or went isn't changed yet
pub not_yet_in : (s : BlockSet) (a n : ℕ) → set.contains s (a + n) ≡ false → set.contains (set.union s (first_blocks a n)) (a + n) ≡ false
not_yet_in s a n h =
    has-union s (first_blocks a n) (a + n)
    ∙ ap (λ (b : Bool). b || set.contains (first_blocks a n) (a + n)) h
    ∙ has-blocks_from a n (a + n)
    ∙ between_above a (a + n) (a + n) (omega arith)

pub not_yet_out : (s : BlockSet) (a n : ℕ) → set.contains (set.difference s (first_blocks a n)) (a + n) ≡ set.contains s (a + n)
not_yet_out s a n =
    has-difference s (first_blocks a n) (a + n)
    ∙ ap (λ (b : Bool). set.contains s (a + n) && not b) (has-blocks_from a n (a + n) ∙ between_above a (a + n) (a + n) (omega arith))
    ∙ sym (and_true (set.contains s (a + n)))

-- ---- how many
pub len-insert_new : (s : BlockSet) (k : ℕ) → set.contains s k ≡ false → set.len (set.insert s k) ≡ set.len s + 1
len-insert_new s k h = set.len-insert nat_cmp_total s k ∙ ap (λ (b : Bool). cond b (set.len s) (set.len s + 1)) h

pub len-remove_there : (s : BlockSet) (k : ℕ) → set.contains s k ≡ true → set.len (set.remove s k) ≡ set.len s - 1
len-remove_there s k h = set.len-remove nat_cmp_total s k ∙ ap (λ (b : Bool). cond b (set.len s - 1) (set.len s)) h

len_zero : (s : BlockSet) (k n : ℕ) → set.len s ≡ n → set.contains s k ≡ true → 1 ≤ n
len_zero s k zero e h = absurd (true≢false (sym h ∙ ap (λ (t : BlockSet). set.contains t k) (set.empty_of_len s e) ∙ has-empty k))
len_zero s k (suc n) e h = omega arith

pub len_some : (s : BlockSet) (k : ℕ) → set.contains s k ≡ true → 1 ≤ set.len s
len_some s k h = len_zero s k (set.len s) refl h

len-insert_le : (s : BlockSet) (k : ℕ) (b : Bool) → set.contains s k ≡ b → set.len (set.insert s k) ≤ set.len s + 1
len-insert_le s k true h = let e : set.len (set.insert s k) ≡ set.len s = set.len-insert nat_cmp_total s k ∙ ap (λ (b : Bool). cond b (set.len s) (set.len s + 1)) h in omega arith
len-insert_le s k false h = let e : set.len (set.insert s k) ≡ set.len s + 1 = len-insert_new s k h in omega arith

pub len-from_list : (ks : List ℕ) → set.len (set.from_list {R = nat_cmp} ks) ≤ length ks
len-from_list [] = let e : set.len (set.empty {R = nat_cmp}) ≡ 0 = set.len-empty nat_cmp in omega arith
len-from_list (k ∷ ks) = omega (arith, len-from_list ks, len-insert_le (set.from_list ks) k (set.contains (set.from_list {R = nat_cmp} ks) k) refl)

-- no block: the empty set
pub empty_from_none : (s : BlockSet) → ((q : ℕ) → set.contains s q ≡ false) → s ≡ set.empty
empty_from_none s none = same_blocks _ _ (λ q. none q ∙ sym (has-empty q))

-- ---- where the blocks of a changed set lie
or_cases : (x y : Bool) → (x || y) ≡ true → (x ≡ true) ⊎ (y ≡ true)
or_cases true y h = inl refl
or_cases false y h = inr h

pub has-run_set : (r : Run) (q : ℕ) → set.contains (run_set r) q ≡ true → (r.start ≤ q) × (q < end_of r)
has-run_set r q h = between_tells r.start (end_of r) q (sym (has-blocks_from r.start r.length q) ∙ h)

pub union_cases : (s : BlockSet) (r : Run) (q : ℕ) → set.contains (set.union s (run_set r)) q ≡ true → (set.contains s q ≡ true) ⊎ ((r.start ≤ q) × (q < end_of r))
union_cases s r q h =
    ⊎_elim (λ (e : set.contains s q ≡ true). inl e) (λ (e : set.contains (run_set r) q ≡ true). inr (has-run_set r q e))
    (or_cases (set.contains s q) (set.contains (run_set r) q) (sym (has-union s (run_set r) q) ∙ h))

pub difference_from : (s t : BlockSet) (q : ℕ) → set.contains (set.difference s t) q ≡ true → set.contains s q ≡ true
difference_from s t q h = and_left (set.contains s q) (not (set.contains t q)) (sym (has-difference s t q) ∙ h)

pub has-blocks_between : (a e q : ℕ) → set.contains (set.from_list {R = nat_cmp} (blocks_from a (e - a))) q ≡ true → (a ≤ q) × (q < e)
has-blocks_between a e q h =
    let (l, u) = between_tells a (a + (e - a)) q (sym (has-blocks_from a (e - a) q) ∙ h) in
    (l, omega (arith, l, u))

-- ---- a set that grows by one block after another, of those that pass a test
between_empty : (a q : ℕ) → between a a q ≡ false
between_empty a q = grind (arith, nat_tests)

between_empty_below : (a f q : ℕ) → f < a → between a f q ≡ false
between_empty_below a f q h = grind (arith, nat_tests)

between_other : (a e q : ℕ) → q ≢ e → between a e q ≡ between a (e + 1) q
between_other a e q ne = grind (arith, nat_tests)

between_same_end : (a e f q : ℕ) → a ≤ e → e - a ≡ f - a → between a e q ≡ between a f q
between_same_end a e f q h k = ⊎_elim
    (λ (w : (leb a f ≡ true) × (a ≤ f)). let same : e ≡ f = omega (arith, h, k, w.1) in ap (λ (n : ℕ). between a n q) same)
    (λ (w : (leb a f ≡ false) × (f < a)). let same : e ≡ a = omega (arith, h, k, w.1) in ap (λ (n : ℕ). between a n q) same ∙ between_empty a q ∙ sym (between_empty_below a f q w.1))
    (leb_tells a f)

no_matter : (x y z : Bool) → z ≡ false → (x && z) ≡ (y && z)
no_matter x y true h = absurd (true≢false h)
no_matter x y false h = sym (and-false x) ∙ and-false y

abbrev pub IsPicked : BlockSet → (ℕ → Bool) → ℕ → ℕ → Type 0
IsPicked s test a e = (q : ℕ) → set.contains s q ≡ (between a e q && test q)

pub picked_none : (test : ℕ → Bool) (a : ℕ) → IsPicked set.empty test a a
picked_none test a q = has-empty q ∙ sym (ap (λ (b : Bool). b && test q) (between_empty a q))

pub picked_one : (s : BlockSet) (test : ℕ → Bool) (a e : ℕ) → a ≤ e → test e ≡ true → IsPicked s test a e → IsPicked (set.insert s e) test a (e + 1)
picked_one s test a e h pass old q = has-insert s e q ∙ ⊎_elim same other (eqb_tells q e) where
  same : (eqb q e ≡ true) × (q ≡ e) → (eqb q e || set.contains s q) ≡ (between a (e + 1) q && test q)
  same w =
      ap (λ (b : Bool). b || set.contains s q) w.0
      ∙ sym (ap (λ (b : Bool). b && test q) (between_in a (e + 1) q (omega (arith, h, w.1)) (omega (arith, w.1))) ∙ ap test w.1 ∙ pass)

  other : (eqb q e ≡ false) × (q ≢ e) → (eqb q e || set.contains s q) ≡ (between a (e + 1) q && test q)
  other w =
      ap (λ (b : Bool). b || set.contains s q) w.0 ∙ old q ∙ ap (λ (b : Bool). b && test q) (between_other a e q w.1)

pub picked_not : (s : BlockSet) (test : ℕ → Bool) (a e : ℕ) → test e ≡ false → IsPicked s test a e → IsPicked s test a (e + 1)
picked_not s test a e fails old q = old q ∙ ⊎_elim same other (eqb_tells q e) where
  same : (eqb q e ≡ true) × (q ≡ e) → (between a e q && test q) ≡ (between a (e + 1) q && test q)
  same w = no_matter (between a e q) (between a (e + 1) q) (test q) (ap test w.1 ∙ fails)

  other : (eqb q e ≡ false) × (q ≢ e) → (between a e q && test q) ≡ (between a (e + 1) q && test q)
  other w = ap (λ (b : Bool). b && test q) (between_other a e q w.1)

pub picked_all : (s : BlockSet) (test : ℕ → Bool) (a e f : ℕ) → a ≤ e → e - a ≡ f - a → IsPicked s test a e → IsPicked s test a f
picked_all s test a e f h k old q = old q ∙ ap (λ (b : Bool). b && test q) (between_same_end a e f q h k)

pub picked_between : (s : BlockSet) (test : ℕ → Bool) (a e : ℕ) → IsPicked s test a e → (q : ℕ) → set.contains s q ≡ true → (a ≤ q) × (q < e)
picked_between s test a e old q h = between_tells a e q (and_left (between a e q) (test q) (sym (old q) ∙ h))

-- ---- how many blocks a set has after a run came or went
len_after : (n : ℕ) → suc n ≡ n + 1
len_after n = omega arith

len-union_first : (s : BlockSet) (a n : ℕ) → ((b : ℕ) → a ≤ b → b < a + n → set.contains s b ≡ false) → set.len (set.union s (first_blocks a n)) ≡ set.len s + n
len-union_first s a zero none = let e : set.len s ≡ set.len (set.union s (first_blocks a 0)) = ap (λ (t : BlockSet). set.len t) (union_none s a) in omega (arith, e)
len-union_first s a (suc n) none =
    let before : set.len (set.union s (first_blocks a n)) ≡ set.len s + n = len-union_first s a n (λ b l h. none b l (omega (arith, h))) in
    let more : set.len (set.union s (first_blocks a (n + 1))) ≡ set.len (set.union s (first_blocks a n)) + 1 =
    ap (λ (t : BlockSet). set.len t) (union_more s a n)
    ∙ len-insert_new (set.union s (first_blocks a n)) (a + n) (not_yet_in s a n (none (a + n) (omega arith) (omega arith))) in
    ap (λ (k : ℕ). set.len (set.union s (first_blocks a k))) (len_after n) ∙ more ∙ ap (λ (k : ℕ). k + 1) before ∙ omega arith

pub len-union_run : (s : BlockSet) (r : Run) → HoldsNone s r → set.len (set.union s (run_set r)) ≡ set.len s + r.length
len-union_run s r none = len-union_first s r.start r.length none

len-difference_first : (s : BlockSet) (a n : ℕ) → ((b : ℕ) → a ≤ b → b < a + n → set.contains s b ≡ true) → set.len (set.difference s (first_blocks a n)) + n ≡ set.len s
len-difference_first s a zero all = let e : set.len s ≡ set.len (set.difference s (first_blocks a 0)) = ap (λ (t : BlockSet). set.len t) (difference_none s a) in omega (arith, e)
len-difference_first s a (suc n) all =
    let before : set.len (set.difference s (first_blocks a n)) + n ≡ set.len s = len-difference_first s a n (λ b l h. all b l (omega (arith, h))) in
    let there : set.contains (set.difference s (first_blocks a n)) (a + n) ≡ true = not_yet_out s a n ∙ all (a + n) (omega arith) (omega arith) in
    let some : 1 ≤ set.len (set.difference s (first_blocks a n)) = len_some (set.difference s (first_blocks a n)) (a + n) there in
    let less : set.len (set.difference s (first_blocks a (n + 1))) ≡ set.len (set.difference s (first_blocks a n)) - 1 =
    ap (λ (t : BlockSet). set.len t) (difference_more s a n) ∙ len-remove_there (set.difference s (first_blocks a n)) (a + n) there in
    ap (λ (k : ℕ). set.len (set.difference s (first_blocks a k)) + suc n) (len_after n) ∙ omega (arith, before, some, less)

pub len-difference_run : (s : BlockSet) (r : Run) → HoldsAll s r → set.len (set.difference s (run_set r)) + r.length ≡ set.len s
len-difference_run s r all = len-difference_first s r.start r.length all

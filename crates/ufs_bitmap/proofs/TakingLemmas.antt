-- Blocks that a pool gives in turn and gets back.
use Rattle.std.proofs.Common.{◌≡◌, ℕ, zero, suc, ◌+◌, ◌-◌, ◌≤◌, ◌<◌, eqb, ltb, Bool, true, false, not, ◌&&◌, ◌||◌, eq-eqb, List, [], ◌∷◌, ◌++◌, length, refl, sym, ap, ◌∙◌, arith, subst}
use Rattle.std.specs.List.{AllByRecursion, IsDistinct}
use Rattle.std.specs.FinSet as set
use Rattle.std.proofs.Common.{length-append}
use Rattle.ufs_extent.proofs.RunLemmas.{length-blocks_from}
use Rattle.ufs_extent.specs.declared.Run.{Run}
use Rattle.ufs_extent.specs.Runs.{IsRun, blocks_from, blocks_in, blocks_of, end_of}
use Rattle.ufs_bitmap.specs.Blocks.{BlockSet, IsLowestRun, run_set, HoldsNone}
use Rattle.ufs_bitmap.proofs.SetLemmas.{same_blocks, has-union, has-difference, has-run_set, has-insert, has-empty, has-blocks_from, between, between_in, between_below, and-true, and-false}
use Rattle.std.specs.Prelude.{nat_eq}
use Rattle.std.proofs.lemmas.Bool.{true≢false, eqb-true, ltb-true, ltb-false}
use Rattle.ufs_bitmap.specs.Taking.{Takes, TakesOneWay, IsApart, set_of, has}

-- one more run
pub takes_more : (before : BlockSet) (want : ℕ) (rs : List Run) (after : BlockSet) (left : ℕ) (r : Run) → Takes before want rs after left → 1 ≤ left → IsRun r → IsLowestRun after left r
    → Takes before want (rs ++ r ∷ []) (set.difference after (run_set r)) (left - r.length)
takes_more before want [] after left r h some run lowest =
    subst (λ (w : ℕ). Takes before w (r ∷ []) (set.difference after (run_set r)) (left - r.length)) (sym h.1)
    (subst (λ (s : BlockSet). Takes s left (r ∷ []) (set.difference after (run_set r)) (left - r.length)) (sym h.0)
    (some, (run, (lowest, (refl, refl)))))
takes_more before want (x ∷ rs) after left r h some run lowest =
    (h.0, (h.1.0, (h.1.1.0, takes_more (set.difference before (run_set x)) (want - x.length) rs after left r h.1.1.1 some run lowest)))

-- what was wanted is left or in the runs
pub takes_count : (before : BlockSet) (want : ℕ) (rs : List Run) (after : BlockSet) (left : ℕ) → Takes before want rs after left → length rs + left ≤ want
takes_count before want [] after left h = omega (arith, h.1)
takes_count before want (x ∷ rs) after left h =
    omega (arith, takes_count (set.difference before (run_set x)) (want - x.length) rs after left h.1.1.1, h.0, h.1.0.0, h.1.1.0.at_most)

pub takes_blocks : (before : BlockSet) (want : ℕ) (rs : List Run) (after : BlockSet) (left : ℕ) → Takes before want rs after left → length (blocks_of rs) + left ≡ want
takes_blocks before want [] after left h = omega (arith, h.1)
takes_blocks before want (x ∷ rs) after left h =
    omega (arith, takes_blocks (set.difference before (run_set x)) (want - x.length) rs after left h.1.1.1, h.1.1.0.at_most, length-append (blocks_in x) (blocks_of rs), length-blocks_from x.start x.length)

-- ---- which blocks a list has

or_false : (a b : Bool) → (a || b) ≡ false → (a ≡ false) × (b ≡ false)
or_false true b h = cc
or_false false b h = (refl, h)

or_assoc : (a b d : Bool) → ((a || b) || d) ≡ (a || (b || d))
or_assoc true b d = refl
or_assoc false b d = refl

or_none : (a : Bool) → a ≡ (a || false)
or_none true = refl
or_none false = refl

clash : {P : Type 0} (b : Bool) → b ≡ true → b ≡ false → P
clash b h k = absurd (true≢false (sym h ∙ k))

pub has-none : (q : ℕ) → has [] q ≡ false
has-none q = has-empty q

has-cons : (x : ℕ) (xs : List ℕ) (q : ℕ) → has (x ∷ xs) q ≡ (eqb q x || has xs q)
has-cons x xs q = has-insert (set.from_list xs) x q

pub has-append : (xs ys : List ℕ) (q : ℕ) → has (xs ++ ys) q ≡ (has xs q || has ys q)
has-append [] ys q = sym (ap (λ (b : Bool). b || has ys q) (has-none q))
has-append (x ∷ xs) ys q =
    has-cons x (xs ++ ys) q ∙ ap (λ (b : Bool). eqb q x || b) (has-append xs ys q) ∙ sym (or_assoc (eqb q x) (has xs q) (has ys q))
    ∙ ap (λ (b : Bool). b || has ys q) (sym (has-cons x xs q))

not_in : (x : ℕ) (zs : List ℕ) → AllByRecursion (λ y. nat_eq x y ≡ false) zs → has zs x ≡ false
not_in x [] h = has-none x
not_in x (z ∷ zs) h = has-cons z zs x ∙ ap (λ (b : Bool). b || has zs x) h.0 ∙ not_in x zs h.1

from_not_in : (x : ℕ) (zs : List ℕ) → has zs x ≡ false → AllByRecursion (λ y. nat_eq x y ≡ false) zs
from_not_in x [] h = tt
from_not_in x (z ∷ zs) h = (let both = or_false (eqb x z) (has zs x) (sym (has-cons z zs x) ∙ h) in (both.0, from_not_in x zs both.1))

pub distinct-none : IsDistinct nat_eq []
unfolding IsDistinct
distinct-none = tt

pub distinct-append : (xs ys : List ℕ) → IsDistinct nat_eq xs → IsDistinct nat_eq ys → ((q : ℕ) → has xs q ≡ true → has ys q ≡ false) → IsDistinct nat_eq (xs ++ ys)
unfolding IsDistinct
distinct-append [] ys h k apart = k
distinct-append (x ∷ xs) ys h k apart =
    let here : has (x ∷ xs) x ≡ true = has-cons x xs x ∙ ap (λ (b : Bool). b || has xs x) (eq-eqb x x refl) in
    let none : has (xs ++ ys) x ≡ false = has-append xs ys x ∙ (λ i. not_in x xs h.0 i || apart x here i) in
    (from_not_in x (xs ++ ys) none, distinct-append xs ys h.1 k (λ q e. apart q (has-cons x xs q ∙ ap (λ (b : Bool). eqb q x || b) e ∙ or_true (eqb q x))))
  where
    or_true : (a : Bool) → (a || true) ≡ true
    or_true true = refl
    or_true false = refl

pub distinct_back : (xs ys : List ℕ) → IsDistinct nat_eq (xs ++ ys) → IsDistinct nat_eq ys
unfolding IsDistinct
distinct_back [] ys h = h
distinct_back (x ∷ xs) ys h = distinct_back xs ys h.1

pub distinct_front : (xs ys : List ℕ) → IsDistinct nat_eq (xs ++ ys) → IsDistinct nat_eq xs
unfolding IsDistinct
distinct_front [] ys h = tt
distinct_front (x ∷ xs) ys h = (from_not_in x xs (or_false (has xs x) (has ys x) (sym (has-append xs ys x) ∙ not_in x (xs ++ ys) h.0)).0, distinct_front xs ys h.1)

pub distinct_apart : (xs ys : List ℕ) → IsDistinct nat_eq (xs ++ ys) → (q : ℕ) → has xs q ≡ true → has ys q ≡ false
unfolding IsDistinct
distinct_apart [] ys h q e = clash (has [] q) e (has-none q)
distinct_apart (x ∷ xs) ys h q e = by (eqb q x) refl (distinct_apart xs ys h.1 q)
  where
    by : (b : Bool) → eqb q x ≡ b → (has xs q ≡ true → has ys q ≡ false) → has ys q ≡ false
    by true is rest = (let same : q ≡ x = eqb-true q x is in ap (has ys) same ∙ (or_false (has xs x) (has ys x) (sym (has-append xs ys x) ∙ not_in x (xs ++ ys) h.0)).1)
    by false is rest = rest (sym (ap (λ (b : Bool). b || has xs q) is) ∙ sym (has-cons x xs q) ∙ e)

-- ---- runs

has-run : (r : Run) (q : ℕ) → has (blocks_in r) q ≡ between r.start (end_of r) q
has-run r q = has-blocks_from r.start r.length q

pub in_run : (r : Run) (q : ℕ) → r.start ≤ q → q < end_of r → has (blocks_in r) q ≡ true
in_run r q low high = has-run r q ∙ between_in r.start (end_of r) q low high

distinct-blocks_from : (a n : ℕ) → IsDistinct nat_eq (blocks_from a n)
unfolding IsDistinct
distinct-blocks_from a zero = tt
distinct-blocks_from a (suc n) =
    (from_not_in a (blocks_from (a + 1) n) (has-blocks_from (a + 1) n a ∙ between_below (a + 1) (a + 1 + n) a (omega arith)), distinct-blocks_from (a + 1) n)

-- a pool has what is left of it and what it gave
pub takes_all : (before : BlockSet) (want : ℕ) (rs : List Run) (after : BlockSet) (left : ℕ) → Takes before want rs after left → (q : ℕ) → set.contains before q ≡ (set.contains after q || has (blocks_of rs) q)
takes_all before want [] after left h q =
    ap (λ (s : BlockSet). set.contains s q) h.0 ∙ or_none (set.contains after q) ∙ ap (λ (b : Bool). set.contains after q || b) (sym (has-none q))
takes_all before want (x ∷ rs) after left h q =
    by (has (blocks_in x) q) refl (takes_all (set.difference before (run_set x)) (want - x.length) rs after left h.1.1.1 q)
    ∙ ap (λ (b : Bool). set.contains after q || b) (sym (has-append (blocks_in x) (blocks_of rs) q))
  where
    or_true : (a : Bool) → true ≡ (a || true)
    or_true true = refl
    or_true false = refl

    by : (b : Bool) → has (blocks_in x) q ≡ b → set.contains (set.difference before (run_set x)) q ≡ (set.contains after q || has (blocks_of rs) q)
        → set.contains before q ≡ (set.contains after q || (has (blocks_in x) q || has (blocks_of rs) q))
    by true is rest =
        (let at = has-run_set x q is in
        h.1.1.0.held q at.0 at.1 ∙ or_true (set.contains after q) ∙ ap (λ (b : Bool). set.contains after q || (b || has (blocks_of rs) q)) (sym is))
    by false is rest =
        and-true (set.contains before q) ∙ ap (λ (b : Bool). set.contains before q && not b) (sym is) ∙ sym (has-difference before (run_set x) q) ∙ rest
        ∙ ap (λ (b : Bool). set.contains after q || (b || has (blocks_of rs) q)) (sym is)

-- what isn't in the pool was neither left nor given
pub takes_absent : (before : BlockSet) (want : ℕ) (rs : List Run) (after : BlockSet) (left : ℕ) → Takes before want rs after left → (q : ℕ) → set.contains before q ≡ false
    → (set.contains after q ≡ false) × (has (blocks_of rs) q ≡ false)
takes_absent before want rs after left h q e = or_false (set.contains after q) (has (blocks_of rs) q) (sym (takes_all before want rs after left h q) ∙ e)

pub gone : (before : BlockSet) (x : Run) (q : ℕ) → has (blocks_in x) q ≡ true → set.contains (set.difference before (run_set x)) q ≡ false
gone before x q e = has-difference before (run_set x) q ∙ ap (λ (b : Bool). set.contains before q && not b) e ∙ sym (and-false (set.contains before q))

-- the blocks that a pool gave are apart from what is left
pub takes_apart : (before : BlockSet) (want : ℕ) (rs : List Run) (after : BlockSet) (left : ℕ) → Takes before want rs after left → IsApart after (blocks_of rs)
takes_apart before want [] after left h = record { absent = λ b e. clash (has [] b) e (has-none b); once = distinct-none }
takes_apart before want (x ∷ rs) after left h = by (takes_apart (set.difference before (run_set x)) (want - x.length) rs after left h.1.1.1)
  where
    out : (q : ℕ) → has (blocks_in x) q ≡ true → (set.contains after q ≡ false) × (has (blocks_of rs) q ≡ false)
    out q e = takes_absent (set.difference before (run_set x)) (want - x.length) rs after left h.1.1.1 q (gone before x q e)

    at : IsApart after (blocks_of rs) → (b : ℕ) (t : Bool) → has (blocks_in x) b ≡ t → (has (blocks_in x) b || has (blocks_of rs) b) ≡ true → set.contains after b ≡ false
    at rest b true is e = (out b is).0
    at rest b false is e = rest.absent b (sym (ap (λ (t : Bool). t || has (blocks_of rs) b) is) ∙ e)

    by : IsApart after (blocks_of rs) → IsApart after (blocks_of (x ∷ rs))
    by rest = record {
      absent = λ b e. at rest b (has (blocks_in x) b) refl (sym (has-append (blocks_in x) (blocks_of rs) b) ∙ e);
      once = distinct-append (blocks_in x) (blocks_of rs) (distinct-blocks_from x.start x.length) rest.once (λ q e. (out q e).1);
    }

-- and together they are the pool
pub takes_undone : (before : BlockSet) (want : ℕ) (rs : List Run) (after : BlockSet) (left : ℕ) → Takes before want rs after left → set.union after (set_of rs) ≡ before
takes_undone before want rs after left h = same_blocks _ _ (λ q. has-union after (set_of rs) q ∙ sym (takes_all before want rs after left h q))

-- ---- given back, run by run

pub none_held : (pool : BlockSet) (r : Run) (rest : List Run) → IsApart pool (blocks_of (r ∷ rest)) → HoldsNone pool r
none_held pool r rest h b low high =
    h.absent b (has-append (blocks_in r) (blocks_of rest) b ∙ ap (λ (t : Bool). t || has (blocks_of rest) b) (in_run r b low high))

pub apart_rest : (pool : BlockSet) (r : Run) (rest : List Run) → IsApart pool (blocks_of (r ∷ rest)) → IsApart (set.union pool (run_set r)) (blocks_of rest)
apart_rest pool r rest h = record {
  absent = λ b e. has-union pool (run_set r) b ∙ (λ i. h.absent b (both b e) i || out b e i);
  once = distinct_back (blocks_in r) (blocks_of rest) h.once;
}
  where
    or_true : (a : Bool) → (a || true) ≡ true
    or_true true = refl
    or_true false = refl

    both : (b : ℕ) → has (blocks_of rest) b ≡ true → has (blocks_of (r ∷ rest)) b ≡ true
    both b e = has-append (blocks_in r) (blocks_of rest) b ∙ ap (λ (t : Bool). has (blocks_in r) b || t) e ∙ or_true (has (blocks_in r) b)

    out : (b : ℕ) → has (blocks_of rest) b ≡ true → has (blocks_in r) b ≡ false
    out b e = by (has (blocks_in r) b) refl
      where
        by : (t : Bool) → has (blocks_in r) b ≡ t → has (blocks_in r) b ≡ false
        by true is = clash (has (blocks_of rest) b) e (distinct_apart (blocks_in r) (blocks_of rest) h.once b is)
        by false is = is

pub union_rest : (pool : BlockSet) (r : Run) (rest : List Run) → set.union (set.union pool (run_set r)) (set_of rest) ≡ set.union pool (set_of (r ∷ rest))
union_rest pool r rest = same_blocks _ _ (λ q.
    has-union (set.union pool (run_set r)) (set_of rest) q ∙ ap (λ (b : Bool). b || has (blocks_of rest) q) (has-union pool (run_set r) q)
    ∙ or_assoc (set.contains pool q) (has (blocks_in r) q) (has (blocks_of rest) q)
    ∙ ap (λ (b : Bool). set.contains pool q || b) (sym (has-append (blocks_in r) (blocks_of rest) q)) ∙ sym (has-union pool (set_of (r ∷ rest)) q))

pub union_end : (pool : BlockSet) → set.union pool (set_of []) ≡ pool
union_end pool = same_blocks _ _ (λ q. has-union pool (set_of []) q ∙ ap (λ (b : Bool). set.contains pool q || b) (has-none q) ∙ sym (or_none (set.contains pool q)))

-- no block is apart from any pool
pub apart_none : (pool : BlockSet) (rs : List Run) → rs ≡ [] → IsApart pool (blocks_of rs)
apart_none pool rs is = subst (λ (l : List Run). IsApart pool (blocks_of l)) (sym is) (record { absent = λ b e. clash (has [] b) e (has-none b); once = distinct-none })

-- ---- the runs that a pool gives are told by the pool

module _ (s : BlockSet) (want : ℕ) (r o : Run) (run : IsRun r) (lowest : IsLowestRun s want r) where
  -- the other run begins no higher, since this one's first block is there
  begins_no_higher : IsLowestRun s want o → o.start ≤ r.start
  begins_no_higher other = by (ltb r.start o.start) refl
    where
      by : (b : Bool) → ltb r.start o.start ≡ b → o.start ≤ r.start
      by true e = clash (set.contains s r.start) (lowest.held r.start (omega arith) (omega (arith, run.0))) (other.lowest r.start (ltb-true r.start o.start e))
      by false e = ltb-false r.start o.start e

  -- where both begin alike, this one ends no earlier
  ends_no_earlier : IsLowestRun s want o → r.start ≡ o.start → o.length ≤ r.length
  ends_no_earlier other same = by (ltb r.length o.length) refl
    where
      by : (b : Bool) → ltb r.length o.length ≡ b → o.length ≤ r.length
      by true e =
          (let less = ltb-true r.length o.length e in
          clash (set.contains s (end_of r)) (other.held (end_of r) (omega (arith, same)) (omega (arith, same, less))) (lowest.goes_on (omega (arith, less, other.at_most))))
      by false e = ltb-false r.length o.length e

pub one_lowest : (s : BlockSet) (want : ℕ) (r o : Run) → IsRun r → IsRun o → IsLowestRun s want r → IsLowestRun s want o → r ≡ o
one_lowest s want r o run other low also =
    let begins : r.start ≡ o.start = omega (arith, begins_no_higher s want r o run low also, begins_no_higher s want o r other also low) in
    let goes : r.length ≡ o.length = omega (arith, ends_no_earlier s want r o run low also begins, ends_no_earlier s want o r other also low (sym begins)) in
    (λ i. record { start = begins i; length = goes i })

pub takes_one_way : TakesOneWay
takes_one_way before want [] after [] rest h k = (refl, sym h.0 ∙ k.0)
takes_one_way before want [] after (o ∷ os) rest h k = absurd (omega (arith, h.1, k.0))
takes_one_way before want (r ∷ rs) after [] rest h k = absurd (omega (arith, k.1, h.0))
takes_one_way before want (r ∷ rs) after (o ∷ os) rest h k =
    let same : r ≡ o = one_lowest before want r o h.1.0 k.1.0 h.1.1.0 k.1.1.0 in
    let more = takes_one_way (set.difference before (run_set r)) (want - r.length) rs after os rest h.1.1.1
    (subst (λ (x : Run). Takes (set.difference before (run_set x)) (want - x.length) os rest 0) (sym same) k.1.1.1) in
    ((λ i. same i ∷ more.0 i), more.1)

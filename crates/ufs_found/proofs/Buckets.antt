-- A list in the order of a number, as the parts that each number has.
use Rattle.std.proofs.Common.{◌≡◌, inl, inr, ℕ, zero, suc, ◌+◌, ◌<◌, ◌≤◌, List, [], ◌∷◌, ◌++◌, Bool, true, false, ◌&&◌, refl, ap, sym, ◌∙◌, arith}
use Rattle.std.specs.Prelude.{if◌then◌else◌, ◌==◌, not, nat_lt, map, flat_map}
use Rattle.std.specs.List.{All, filter, range_with_len}
use Rattle.std.specs.List.Sorted.{IsNonDecreasingBy, IsStableByKey, ties}
use Rattle.std.specs.Ordering.{is_lt, nat_cmp}
use Rattle.std.proofs.lemmas.Bool.{lt-ltb, le-ltb, cases_lt, cases_eq, eq-eqb, ne_eqb, eqb-true}
use Rattle.std.proofs.lemmas.Grind.{flat_map-append}
use Rattle.std.proofs.lemmas.List.{append-nil}
use Rattle.std.proofs.lemmas.List.Elements.{All-cons, All-nil, All-head, All-tail, filter_agree, filter_passes}
use Rattle.std.proofs.lemmas.List.Sorted.{IsNonDecreasingBy-drop}
use Rattle.ufs_found.proofs.Noted.{range_more}

-- ---- orders

lt_is : (m n : ℕ) → is_lt (nat_cmp m n) ≡ nat_lt m n
lt_is m n = elim (cases_lt m n) [
  | inl lt ↦ by true (lt-ltb m n lt)
  | inr le ↦ by false (le-ltb m n le)
]
  where
    other : (c : Bool) → is_lt (if c then Rattle.std.specs.declared.cmp.Ordering.TheVariants.Equal else Rattle.std.specs.declared.cmp.Ordering.TheVariants.Greater) ≡ false
    other true = refl
    other false = refl

    at : (b c : Bool) → is_lt (if b then Rattle.std.specs.declared.cmp.Ordering.TheVariants.Less else (if c then Rattle.std.specs.declared.cmp.Ordering.TheVariants.Equal else Rattle.std.specs.declared.cmp.Ordering.TheVariants.Greater)) ≡ b
    at true c = refl
    at false c = other c

    by : (b : Bool) → nat_lt m n ≡ b → is_lt (nat_cmp m n) ≡ nat_lt m n
    by b is = at (nat_lt m n) (m == n)

tie_is : (m n : ℕ) → (not (nat_lt m n) && not (nat_lt n m)) ≡ (n == m)
tie_is m n = elim (cases_eq n m) [
  | inl same ↦ (λ i. not (le-ltb m n (omega (arith, same)) i) && not (le-ltb n m (omega (arith, same)) i)) ∙ sym (eq-eqb n m same)
  | inr ne ↦ elim (cases_lt m n) [
    | inl lt ↦ (λ i. not (lt-ltb m n lt i) && not (nat_lt n m)) ∙ sym (ne_eqb n m ne)
    | inr le ↦ (λ i. not (le-ltb m n le i) && not (lt-ltb n m (omega (arith, le, ne)) i)) ∙ sym (ne_eqb n m ne)
  ]
]

-- ---- lists

pub filter_none : {X : Type 0} (p : X → Bool) (xs : List X) → All (λ x. p x ≡ false) xs → filter p xs ≡ []
filter_none p [] none = refl
filter_none p (x ∷ xs) none =
    λ i. if All-head (λ x. p x ≡ false) x xs none i then x ∷ filter p xs else filter_none p xs (All-tail (λ x. p x ≡ false) x xs none) i

pub filter_all : {X : Type 0} (p : X → Bool) (xs : List X) → All (λ x. p x ≡ true) xs → filter p xs ≡ xs
filter_all p [] every = refl
filter_all p (x ∷ xs) every =
    λ i. if All-head (λ x. p x ≡ true) x xs every i then x ∷ filter_all p xs (All-tail (λ x. p x ≡ true) x xs every) i else filter p xs

-- one test after another
pub filter_both : {X : Type 0} (p q r : X → Bool) → ((x : X) → (p x && q x) ≡ r x) → (xs : List X) → filter q (filter p xs) ≡ filter r xs
filter_both p q r both [] = refl
filter_both {X} p q r both (x ∷ xs) = by (p x) (both x) (filter_both p q r both xs)
  where
    by : (b : Bool) → (b && q x) ≡ r x → filter q (filter p xs) ≡ filter r xs → filter q (if b then x ∷ filter p xs else filter p xs) ≡ (if r x then x ∷ filter r xs else filter r xs)
    by true is rest = λ i. if is i then x ∷ rest i else rest i
    by false is rest = rest ∙ (λ i. if is i then x ∷ filter r xs else filter r xs)

-- of what the values stand for
pub flat_of : {X Y Z : Type 0} (g : X → Y) (F : Y → List Z) (p : Y → Bool) (xs : List X) → flat_map (λ x. F (g x)) (filter (λ x. p (g x)) xs) ≡ flat_map F (filter p (map g xs))
flat_of g F p [] = refl
flat_of {X} {Y} {Z} g F p (x ∷ xs) = by (p (g x)) (flat_of g F p xs)
  where
    by : (b : Bool) → flat_map (λ x. F (g x)) (filter (λ x. p (g x)) xs) ≡ flat_map F (filter p (map g xs))
        → flat_map (λ x. F (g x)) (if b then x ∷ filter (λ x. p (g x)) xs else filter (λ x. p (g x)) xs) ≡ flat_map F (if b then g x ∷ filter p (map g xs) else filter p (map g xs))
    by true rest = ap (λ (l : List Z). F (g x) ++ l) rest
    by false rest = rest

pub all_of : {X Y : Type 0} (g : X → Y) (P : Y → Type 0) (xs : List X) → All P (map g xs) → All (λ x. P (g x)) xs
all_of g P [] every = All-nil (λ x. P (g x))
all_of g P (x ∷ xs) every = All-cons (λ x. P (g x)) x xs (All-head P (g x) (map g xs) every) (all_of g P xs (All-tail P (g x) (map g xs) every))

pub same_range : {Y : Type 0} (G H : ℕ → List Y) (a n : ℕ) → ((i : ℕ) → i < a + n → G i ≡ H i) → flat_map G (range_with_len a n) ≡ flat_map H (range_with_len a n)
same_range G H a zero same = refl
same_range G H a (suc n) same = λ i. same a (omega arith) i ++ same_range G H (a + 1) n (λ k lt. same k (omega (arith, lt))) i

-- ---- in order

module _ {X : Type 0} (key : X → ℕ) where
  abbrev pub at : ℕ → X → Bool
  at i x = key x == i

  abbrev pub under : ℕ → X → Bool
  under c x = nat_lt (key x) c

  pub behind_head : (y : X) (ys : List X) → IsNonDecreasingBy key (y ∷ ys) → All (λ o. key y ≤ key o) ys
  behind_head y ys up k d lt = up 0 (suc k) d (omega arith) (omega (arith, lt))

  pub one_more : (c : ℕ) (ys : List X) → IsNonDecreasingBy key ys → filter (under (c + 1)) ys ≡ filter (under c) ys ++ filter (at c) ys
  one_more c [] up = refl
  one_more c (y ∷ ys) up =
      let rest = one_more c ys (IsNonDecreasingBy-drop key 1 (y ∷ ys) up) in
      let above = behind_head y ys up in
      elim (cases_lt (key y) c) [
        | inl lt ↦ (λ i. if lt-ltb (key y) (c + 1) (omega (arith, lt)) i then y ∷ rest i else filter (under (c + 1)) ys)
            ∙ sym ((λ i. (if lt-ltb (key y) c lt i then y ∷ filter (under c) ys else filter (under c) ys) ++ (if ne_eqb (key y) c (λ same. omega (arith, same, lt)) i then y ∷ filter (at c) ys else filter (at c) ys)))
        | inr le ↦ (let none : filter (under c) ys ≡ [] = filter_none (under c) ys (λ k d l. le-ltb _ c (let up = above k d l in omega (arith, up, le))) in
            elim (cases_eq (key y) c) [
              | inl same ↦ (λ i. if lt-ltb (key y) (c + 1) (omega (arith, same)) i then y ∷ (rest ∙ (λ j. none j ++ filter (at c) ys)) i else filter (under (c + 1)) ys)
                  ∙ sym (λ i. (if le-ltb (key y) c le i then y ∷ filter (under c) ys else none i) ++ (if eq-eqb (key y) c same i then y ∷ filter (at c) ys else filter (at c) ys))
              | inr ne ↦ (λ i. if le-ltb (key y) (c + 1) (omega (arith, le, ne)) i then y ∷ filter (under (c + 1)) ys else (rest ∙ (λ j. none j ++ filter (at c) ys)) i)
                  ∙ sym (λ i. (if le-ltb (key y) c le i then y ∷ filter (under c) ys else none i) ++ (if ne_eqb (key y) c ne i then y ∷ filter (at c) ys else filter (at c) ys))
            ])
      ]

  pub buckets : {Y : Type 0} (F : X → List Y) (c : ℕ) (ys : List X) → IsNonDecreasingBy key ys → flat_map F (filter (under c) ys) ≡ flat_map (λ i. flat_map F (filter (at i) ys)) (range_with_len 0 c)
  buckets F zero ys up = ap (flat_map F) (filter_none (under 0) ys (λ k d lt. le-ltb _ 0 (omega arith)))
  buckets F (suc c) ys up =
      let one : suc c ≡ c + 1 = omega arith in
      let zeroes : 0 + c ≡ c = omega arith in
      ap (λ n. flat_map F (filter (under n) ys)) one ∙ ap (flat_map F) (one_more c ys up) ∙ flat_map-append F (filter (under c) ys) (filter (at c) ys)
      ∙ (λ i. buckets F c ys up i ++ sym (append-nil (flat_map F (filter (at c) ys))) i)
      ∙ sym (ap (λ n. flat_map (λ i. flat_map F (filter (at i) ys)) (range_with_len 0 n)) one
      ∙ ap (flat_map (λ i. flat_map F (filter (at i) ys))) (range_more 0 c)
      ∙ flat_map-append (λ i. flat_map F (filter (at i) ys)) (range_with_len 0 c) ((0 + c) ∷ [])
      ∙ ap (λ n. flat_map (λ i. flat_map F (filter (at i) ys)) (range_with_len 0 c) ++ (flat_map F (filter (at n) ys) ++ [])) zeroes)

  ties_at : (x : X) (i : ℕ) → key x ≡ i → (y : X) → ties (λ a b. is_lt (nat_cmp (key a) (key b))) x y ≡ at i y
  ties_at x i is y = (λ j. not (lt_is (key x) (key y) j) && not (lt_is (key y) (key x) j)) ∙ tie_is (key x) (key y) ∙ ap (λ n. key y == n) is

  -- a stable sort leaves each number's part as it was
  pub same_part : (xs ys : List X) → IsStableByKey key nat_cmp xs ys → (i : ℕ) → filter (at i) ys ≡ filter (at i) xs
  same_part xs ys stable i = by (filter (at i) ys) (filter (at i) xs) (filter_passes (at i) ys) (filter_passes (at i) xs) refl refl
    where
      moved : (x : X) → key x ≡ i → filter (at i) ys ≡ filter (at i) xs
      moved x is = sym (filter_agree (ties (λ a b. is_lt (nat_cmp (key a) (key b))) x) (at i) (ties_at x i is) ys) ∙ stable x ∙ filter_agree (ties (λ a b. is_lt (nat_cmp (key a) (key b))) x) (at i) (ties_at x i is) xs

      by : (vs us : List X) → All (λ x. at i x ≡ true) vs → All (λ x. at i x ≡ true) us → filter (at i) ys ≡ vs → filter (at i) xs ≡ us → filter (at i) ys ≡ filter (at i) xs
      by [] [] v u vs_is us_is = vs_is ∙ sym us_is
      by (y ∷ vs) us v u vs_is us_is = moved y (eqb-true (key y) i (All-head (λ x. at i x ≡ true) y vs v))
      by [] (x ∷ us) v u vs_is us_is = moved x (eqb-true (key x) i (All-head (λ x. at i x ≡ true) x us u))

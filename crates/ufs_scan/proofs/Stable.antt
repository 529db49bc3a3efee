-- A stable sort is what `rising_by` says.
use Rattle.std.proofs.Common.{◌≡◌, ℕ, zero, suc, ◌+◌, ◌≤◌, List, [], ◌∷◌, Bool, true, false, refl, ap, sym, ◌∙◌, arith}
use Rattle.std.specs.Prelude.{if◌then◌else◌, ◌==◌, nat_le, map, flat_map}
use Rattle.std.specs.List.{All, filter, range_with_len}
use Rattle.std.specs.List.Sorted.{IsNonDecreasingBy, IsStableByKey}
use Rattle.std.specs.Ordering.{nat_cmp}
use Rattle.std.proofs.lemmas.Bool.{lt-ltb, leb-true, leb-false, eqb-true}
use Rattle.std.proofs.lemmas.List.Elements.{All-cons, All-nil, All-head, All-tail}
use Rattle.std.proofs.lemmas.List.Sorted.{IsNonDecreasingBy-drop}
use Rattle.ufs_layout.specs.Words.{placed_by, rising_by}
use Rattle.ufs_found.proofs.Buckets.{at, under, filter_all, behind_head, buckets, same_part, same_range}

single : {X : Type 0} (xs : List X) → flat_map (λ x. x ∷ []) xs ≡ xs
single [] = refl
single (x ∷ xs) = ap (λ l. x ∷ l) (single xs)

placed_map : {X Y : Type 0} (g : X → Y) (key : Y → ℕ) (x : X) (ys : List X) → placed_by key (g x) (map g ys) ≡ map g (placed_by (λ x. key (g x)) x ys)
placed_map g key x [] = refl
placed_map {X} {Y} g key x (y ∷ ys) = by (nat_le (key (g x)) (key (g y))) (placed_map g key x ys)
  where
    by : (b : Bool) → placed_by key (g x) (map g ys) ≡ map g (placed_by (λ x. key (g x)) x ys) → (if b then g x ∷ g y ∷ map g ys else g y ∷ placed_by key (g x) (map g ys)) ≡ map g (if b then x ∷ y ∷ ys else y ∷ placed_by (λ x. key (g x)) x ys)
    by true rest = refl
    by false rest = ap (λ (l : List Y). g y ∷ l) rest

pub rising_map : {X Y : Type 0} (g : X → Y) (key : Y → ℕ) (xs : List X) → rising_by key (map g xs) ≡ map g (rising_by (λ x. key (g x)) xs)
rising_map g key [] = refl
rising_map g key (x ∷ xs) = ap (placed_by key (g x)) (rising_map g key xs) ∙ placed_map g key x (rising_by (λ x. key (g x)) xs)

module _ {X : Type 0} (key : X → ℕ) where
  pub cons_up : (y : X) (ys : List X) → All (λ o. key y ≤ key o) ys → IsNonDecreasingBy key ys → IsNonDecreasingBy key (y ∷ ys)
  cons_up y ys above up zero zero d le lt = omega arith
  cons_up y ys above up zero (suc j) d le lt = above j d (omega (arith, lt))
  cons_up y ys above up (suc i) zero d le lt = absurd (omega (arith, le))
  cons_up y ys above up (suc i) (suc j) d le lt = up i j d (omega (arith, le)) (omega (arith, lt))

  all_placed : (P : X → Type 0) (x : X) (ys : List X) → P x → All P ys → All P (placed_by key x ys)
  all_placed P x [] one every = All-cons P x [] one every
  all_placed P x (y ∷ ys) one every = by (nat_le (key x) (key y)) (all_placed P x ys one (All-tail P y ys every))
    where
      by : (b : Bool) → All P (placed_by key x ys) → All P (if b then x ∷ y ∷ ys else y ∷ placed_by key x ys)
      by true rest = All-cons P x (y ∷ ys) one every
      by false rest = All-cons P y (placed_by key x ys) (All-head P y ys every) rest

  pub all_rising : (P : X → Type 0) (xs : List X) → All P xs → All P (rising_by key xs)
  all_rising P [] every = every
  all_rising P (x ∷ xs) every = all_placed P x (rising_by key xs) (All-head P x xs every) (all_rising P xs (All-tail P x xs every))

  placed_up : (x : X) (ys : List X) → IsNonDecreasingBy key ys → IsNonDecreasingBy key (placed_by key x ys)
  placed_up x [] up = cons_up x [] (All-nil (λ o. key x ≤ key o)) up
  placed_up x (y ∷ ys) up = by (nat_le (key x) (key y)) refl (placed_up x ys (IsNonDecreasingBy-drop key 1 (y ∷ ys) up))
    where
      by : (b : Bool) → nat_le (key x) (key y) ≡ b → IsNonDecreasingBy key (placed_by key x ys) → IsNonDecreasingBy key (if b then x ∷ y ∷ ys else y ∷ placed_by key x ys)
      by true is rest =
          let low = leb-true (key x) (key y) is in
          cons_up x (y ∷ ys) (All-cons (λ o. key x ≤ key o) y ys low (λ k d lt. let le = behind_head key y ys up k d lt in omega (arith, le, low))) up
      by false is rest =
          let high = leb-false (key x) (key y) is in
          cons_up y (placed_by key x ys) (all_placed (λ o. key y ≤ key o) x ys (omega (arith, high)) (behind_head key y ys up)) rest

  rising_up : (xs : List X) → IsNonDecreasingBy key (rising_by key xs)
  rising_up [] = λ i j d le lt. absurd (omega (arith, lt))
  rising_up (x ∷ xs) = placed_up x (rising_by key xs) (rising_up xs)

  placed_part : (i : ℕ) (x : X) (ys : List X) → filter (at key i) (placed_by key x ys) ≡ filter (at key i) (x ∷ ys)
  placed_part i x [] = refl
  placed_part i x (y ∷ ys) = by (nat_le (key x) (key y)) refl (placed_part i x ys)
    where
      last : (p q : Bool) → (key x == i) ≡ p → (key y == i) ≡ q → nat_le (key x) (key y) ≡ false
          → (if q then y ∷ (if p then x ∷ filter (at key i) ys else filter (at key i) ys) else (if p then x ∷ filter (at key i) ys else filter (at key i) ys)) ≡ (if p then x ∷ (if q then y ∷ filter (at key i) ys else filter (at key i) ys) else (if q then y ∷ filter (at key i) ys else filter (at key i) ys))
      last true true p_is q_is lt =
          let one = eqb-true (key x) i p_is in
          let two = eqb-true (key y) i q_is in
          let high = leb-false (key x) (key y) lt in
          absurd (omega (arith, one, two, high))
      last true false p_is q_is lt = refl
      last false true p_is q_is lt = refl
      last false false p_is q_is lt = refl

      by : (b : Bool) → nat_le (key x) (key y) ≡ b → filter (at key i) (placed_by key x ys) ≡ filter (at key i) (x ∷ ys) → filter (at key i) (if b then x ∷ y ∷ ys else y ∷ placed_by key x ys) ≡ filter (at key i) (x ∷ y ∷ ys)
      by true is rest = refl
      by false is rest = (λ j. if key y == i then y ∷ rest j else rest j) ∙ last (key x == i) (key y == i) refl refl is

  rising_part : (i : ℕ) (xs : List X) → filter (at key i) (rising_by key xs) ≡ filter (at key i) xs
  rising_part i [] = refl
  rising_part i (x ∷ xs) = placed_part i x (rising_by key xs) ∙ (λ j. if key x == i then x ∷ rising_part i xs j else rising_part i xs j)

  -- above each
  abbrev bound : List X → ℕ
  bound [] = 0
  bound (x ∷ xs) = suc (key x + bound xs)

  bounded : (c : ℕ) (xs : List X) → bound xs ≤ c → All (λ x. under key c x ≡ true) xs
  bounded c [] le = All-nil (λ x. under key c x ≡ true)
  bounded c (x ∷ xs) le = All-cons (λ x. under key c x ≡ true) x xs (lt-ltb (key x) c (omega (arith, le))) (bounded c xs (omega (arith, le)))

  whole : (c : ℕ) (xs : List X) → bound xs ≤ c → IsNonDecreasingBy key xs → xs ≡ flat_map (λ i. flat_map (λ x. x ∷ []) (filter (at key i) xs)) (range_with_len 0 c)
  whole c xs le up = sym (single xs) ∙ ap (flat_map (λ x. x ∷ [])) (sym (filter_all (under key c) xs (bounded c xs le))) ∙ buckets key (λ x. x ∷ []) c xs up

  -- two lists in order with the same parts
  unique : (xs ys : List X) → IsNonDecreasingBy key xs → IsNonDecreasingBy key ys → ((i : ℕ) → filter (at key i) xs ≡ filter (at key i) ys) → xs ≡ ys
  unique xs ys one two same =
      let c : ℕ = bound xs + bound ys in
      whole (bound xs + bound ys) xs (omega arith) one
      ∙ same_range (λ i. flat_map (λ x. x ∷ []) (filter (at key i) xs)) (λ i. flat_map (λ x. x ∷ []) (filter (at key i) ys)) 0 (bound xs + bound ys) (λ i lt. ap (flat_map (λ x. x ∷ [])) (same i))
      ∙ sym (whole (bound xs + bound ys) ys (omega arith) two)

  pub stable_is : (xs ys : List X) → IsNonDecreasingBy key ys → IsStableByKey key nat_cmp xs ys → ys ≡ rising_by key xs
  stable_is xs ys up stable = unique ys (rising_by key xs) up (rising_up xs) (λ i. same_part key xs ys stable i ∙ sym (rising_part i xs))

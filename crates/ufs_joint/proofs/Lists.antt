-- What stands in the lists of a first hand.
use Rattle.std.proofs.Common.{◌≡◌, inl, inr, ℕ, zero, suc, ◌+◌, ◌<◌, ◌≤◌, Bool, true, false, cond, eqb, List, [], ◌∷◌, length, map, Some, option_map, ap, sym, refl, ◌∙◌, subst, arith}
use Rattle.std.proofs.lemmas.Bool.{and_parts}
use Rattle.std.specs.Cmp.{eq_by_cmp_equiv, nat_cmp_total}
use Rattle.std.specs.Ordering.{eq_by_cmp, is_eq, is_lt, nat_cmp}
use Rattle.std.specs.FinMap as fin
use Rattle.std.specs.FinMap.{nat_cmp-IsAntisymmetric}
use Rattle.std.specs.FinMap.Entries.{below_all}
use native.Mathlib.Decide.{dec_le}
use Rattle.ufs_model.proofs.Facts.Lookups.{one_key}
use Rattle.ufs_model.proofs.Facts.Rising.{less}
use Rattle.ufs_hand_laws.specs.Owned.{Has, count, find, one}
use Rattle.ufs_hand_laws.proofs.Keys.{alike, itself}
use Rattle.ufs_joint.specs.FirstHand.{each_of}

-- ---- the same for each of so many

module _ {D : Type 0} (name : ℕ → ℕ) (d : D) where
  pub each_is : (n m : ℕ) (x : D) → Has {A = ℕ × D} (m, x) (each_of name d n) → x ≡ d
  each_is zero m x has = absurd has
  each_is (suc n) m x (inl is) = ap (λ (q : ℕ × D). q.1) is
  each_is (suc n) m x (inr has) = each_is n m x has

  pub each_long : (n : ℕ) → length (each_of name d n) ≡ n
  each_long zero = refl
  each_long (suc n) = let rest = each_long n in omega (arith, rest)

  -- a name that stands there is one of theirs
  named_by : (n m : ℕ) → 1 ≤ count eqb m (each_of name d n) → (i : ℕ) × (i < n) × (m ≡ name i)
  named_by zero m some = absurd (omega (arith, some))
  named_by (suc n) m some = by (eqb m (name n)) refl some (named_by n m)
    where
      by : (b : Bool) → eqb m (name n) ≡ b → 1 ≤ one b + count eqb m (each_of name d n) → (1 ≤ count eqb m (each_of name d n) → (i : ℕ) × (i < n) × (m ≡ name i)) → (i : ℕ) × (i < suc n) × (m ≡ name i)
      by true is l rest = (n, omega arith, alike m (name n) is)
      by false is l rest = let r = rest (omega (arith, l)) in let low = r.1 in (r.0, omega (arith, low), r.2)

  -- Where the first ones have names of their own, each stands there once.
  module _ (most : ℕ) (apart : (i j : ℕ) → i < j → j ≤ most → name j ≡ name i → ⊥) where
    behind : (n m : ℕ) → n ≤ most → m ≡ name n → count eqb m (each_of name d n) ≡ 0
    behind n m low is = by (dec_le 1 (count eqb m (each_of name d n)))
      where
        by : Dec (1 ≤ count eqb m (each_of name d n)) → count eqb m (each_of name d n) ≡ 0
        by (yes some) = let r = named_by n m some in absurd (apart r.0 n r.1 low (sym is ∙ r.2))
        by (no none) = omega (arith, none)

    pub each_once : (n m : ℕ) → n ≤ suc most → count eqb m (each_of name d n) ≤ 1
    each_once zero m few = omega arith
    each_once (suc n) m few = by (eqb m (name n)) refl (each_once n m (omega (arith, few)))
      where
        by : (b : Bool) → eqb m (name n) ≡ b → count eqb m (each_of name d n) ≤ 1 → one b + count eqb m (each_of name d n) ≤ 1
        by false is rest = omega (arith, rest)
        by true is rest = let none = behind n m (omega (arith, few)) (alike m (name n) is) in omega (arith, none)

-- ---- what stands in a map

-- two numbers are the same, however that is asked
same_key : (n k : ℕ) → eqb n k ≡ eq_by_cmp nat_cmp n k
same_key n k = by (eqb n k) refl (eq_by_cmp nat_cmp n k) refl
  where
    by : (a : Bool) → eqb n k ≡ a → (b : Bool) → eq_by_cmp nat_cmp n k ≡ b → a ≡ b
    by true is true e = refl
    by false is false e = refl
    by true is false e = (let both : false ≡ true = sym e ∙ ap (eq_by_cmp nat_cmp n) (sym (alike n k is)) ∙ (eq_by_cmp_equiv nat_cmp_total).refl n in absurd cc)
    by false is true e = (let both : false ≡ true = sym is ∙ ap (eqb n) (sym (one_key nat_cmp_total nat_cmp-IsAntisymmetric n k e)) ∙ itself n in absurd cc)

not_below : (n k : ℕ) → n ≡ k → is_lt (nat_cmp n k) ≡ true → ⊥
not_below n k is low = (let both : true ≡ false = sym ((eq_by_cmp_equiv nat_cmp_total).refl n) ∙ ap (eq_by_cmp nat_cmp n) is ∙ ap is_eq (less (nat_cmp n k) low) in absurd cc)

module _ {X D : Type 0} (f : X → D) where
  abbrev listed : List (ℕ × X) → List (ℕ × D)
  listed es = map (λ e. (e.0, f e.1)) es

  pub find_listed : (n : ℕ) (es : List (ℕ × X)) → find eqb n (listed es) ≡ option_map f (fin.find nat_cmp n es)
  find_listed n [] = refl
  find_listed n (e ∷ es) = ap (λ b. cond b (Some (f e.1)) (find eqb n (listed es))) (same_key n e.0) ∙ by (eq_by_cmp nat_cmp n e.0) (find_listed n es)
    where
      by : (b : Bool) → find eqb n (listed es) ≡ option_map f (fin.find nat_cmp n es) → cond b (Some (f e.1)) (find eqb n (listed es)) ≡ option_map f (cond b (Some e.1) (fin.find nat_cmp n es))
      by true rest = refl
      by false rest = rest

  pub found_listed : (n : ℕ) (es : List (ℕ × X)) → fin.find nat_cmp n (listed es) ≡ option_map f (fin.find nat_cmp n es)
  found_listed n [] = refl
  found_listed n (e ∷ es) = by (eq_by_cmp nat_cmp n e.0) (found_listed n es)
    where
      by : (b : Bool) → fin.find nat_cmp n (listed es) ≡ option_map f (fin.find nat_cmp n es) → cond b (Some (f e.1)) (fin.find nat_cmp n (listed es)) ≡ option_map f (cond b (Some e.1) (fin.find nat_cmp n es))
      by true rest = refl
      by false rest = rest

  pub each_listed : (P : D → Type 0) → ((x : X) → P (f x)) → (es : List (ℕ × X)) (n : ℕ) (y : D) → Has {A = ℕ × D} (n, y) (listed es) → P y
  each_listed P all [] n y has = absurd has
  each_listed P all (e ∷ es) n y (inl is) = subst P (sym (ap (λ (q : ℕ × D). q.1) is)) (all e.1)
  each_listed P all (e ∷ es) n y (inr has) = each_listed P all es n y has

  -- keys that rise are apart
  none_below : (k : ℕ) (es : List (ℕ × X)) → below_all nat_cmp k es ≡ true → count eqb k (listed es) ≡ 0
  none_below k [] h = refl
  none_below k (e ∷ es) h = let both = and_parts _ _ h in by (eqb k e.0) refl both.0 (none_below k es both.1)
    where
      by : (b : Bool) → eqb k e.0 ≡ b → is_lt (nat_cmp k e.0) ≡ true → count eqb k (listed es) ≡ 0 → one b + count eqb k (listed es) ≡ 0
      by true is low rest = absurd (not_below k e.0 (alike k e.0 is) low)
      by false is low rest = omega (arith, rest)

  pub listed_once : (n : ℕ) (es : List (ℕ × X)) → fin.is_sorted nat_cmp es ≡ true → count eqb n (listed es) ≤ 1
  listed_once n [] h = omega arith
  listed_once n (e ∷ es) h = let both = and_parts _ _ h in by (eqb n e.0) refl (none_below e.0 es both.0) (listed_once n es both.1)
    where
      by : (b : Bool) → eqb n e.0 ≡ b → count eqb e.0 (listed es) ≡ 0 → count eqb n (listed es) ≤ 1 → one b + count eqb n (listed es) ≤ 1
      by true is none rest = let here = ap (λ k. count eqb k (listed es)) (alike n e.0 is) ∙ none in omega (arith, here)
      by false is none rest = omega (arith, rest)

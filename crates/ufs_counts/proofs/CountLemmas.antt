-- How many entries of a map pass a test, as its keys come and go.
use Rattle.std.proofs.Common.{◌≡◌, ℕ, ◌+◌, List, [], ◌∷◌, Bool, true, false, cond, Some, None, ap, sym, refl, ◌∙◌, arith, ltb, ◌||◌}
use Rattle.std.specs.declared.cmp.Ordering.{Ordering}
use Rattle.std.specs.declared.cmp.Ordering.TheVariants.{Less, Equal, Greater}
use Rattle.std.specs.List.{count_by, list_any}
use Rattle.std.specs.Ordering.{is_eq, eq_by_cmp}
use Rattle.std.specs.Cmp.{IsTotalOrder}
use Rattle.std.specs.Map.{keys_of, values_of}
use Rattle.std.specs.FinMap.{FinMap, IsAntisymmetric, get, insert, remove, find, put, entries, values, entries-insert, get-entries, get-insert, get-remove, get_tied, same_map}
use Rattle.std.specs.FinMap.Entries.{by_order}
use Rattle.std.proofs.lemmas.List.Sums.{sum_by-cons}
use Rattle.std.proofs.lemmas.Bool.{lt-ltb}
use Rattle.ufs_model.proofs.Facts.Lookups.{removed_here}

module _ {X : Type 0} (p : X → Bool) where
  -- one where the value passes
  abbrev pub one_if : X → ℕ
  one_if v = cond (p v) 1 0

  pub count-cons : (v : X) (vs : List X) → count_by p (v ∷ vs) ≡ one_if v + count_by p vs
  count-cons v vs = sum_by-cons (λ x. cond (p x) 1 0) v vs

  above_none : (n : ℕ) → ltb 0 (1 + n) ≡ true
  above_none n = lt-ltb 0 (1 + n) (omega arith)

  none_by : (b : Bool) (rest : Bool) (n : ℕ) → rest ≡ ltb 0 n → (b || rest) ≡ ltb 0 (cond b 1 0 + n)
  none_by true rest n e = sym (above_none n)
  none_by false rest n e = e ∙ ap (ltb 0) (omega arith)

  -- some value passes exactly where the count isn't 0
  pub any-count : (vs : List X) → list_any p vs ≡ ltb 0 (count_by p vs)
  any-count [] = refl
  any-count (v ∷ vs) = none_by (p v) (list_any p vs) (count_by p vs) (any-count vs) ∙ ap (ltb 0) (sym (count-cons v vs))

module _ {K X : Type 0} (R : K → K → Ordering) (p : K × X → Bool) where
  count-put : (k : K) (v : X) (es : List (K × X)) → find R k es ≡ None → count_by p (put R k v es) ≡ count_by p es + one_if p (k, v)
  count-put k v [] none = count-cons p (k, v) [] ∙ omega arith
  count-put k v (e ∷ es) none =
      elim (R k e.0) as (λ r. cond (is_eq r) (Some e.1) (find R k es) ≡ None → count_by p (by_order r ((k, v) ∷ e ∷ es) ((e.0, v) ∷ es) (e ∷ put R k v es)) ≡ count_by p (e ∷ es) + one_if p (k, v)) [
        | Less ↦ λ n. count-cons p (k, v) (e ∷ es) ∙ omega arith
        | Equal ↦ λ n. cc
        | Greater ↦ λ n. count-cons p e (put R k v es) ∙ ap (λ k. one_if p e + k) (count-put k v es n) ∙ omega (arith, count-cons p e es)
      ] none

  module _ (o : IsTotalOrder R) where
    pub count-insert : (m : FinMap R X) (k : K) (v : X) → get m k ≡ None → count_by p (entries (insert m k v)) ≡ count_by p (entries m) + one_if p (k, v)
    count-insert m k v none = ap (count_by p) (entries-insert o m k v) ∙ count-put k v (entries m) (sym (get-entries m k) ∙ none)

    module _ (same : IsAntisymmetric R) where
      -- the same value is put back
      put_back : (m : FinMap R X) (k : K) (v : X) → get m k ≡ Some v → insert (remove m k) k v ≡ m
      put_back m k v there = same_map o same _ _ (λ q. get-insert o (remove m k) k v q ∙ ap (cond (eq_by_cmp R q k) (Some v)) (get-remove o m k q) ∙ both q (R q k) refl)
        where
          both : (q : K) (r : Ordering) → R q k ≡ r → cond (is_eq (R q k)) (Some v) (cond (is_eq (R q k)) None (get m q)) ≡ get m q
          both q Less is = rw is refl
          both q Equal is = rw is (sym there ∙ get_tied o m q k is)
          both q Greater is = rw is refl

      -- another is put in its place
      put_anew : (m : FinMap R X) (k : K) (v : X) → insert (remove m k) k v ≡ insert m k v
      put_anew m k v = same_map o same _ _ (λ q. get-insert o (remove m k) k v q ∙ ap (cond (eq_by_cmp R q k) (Some v)) (get-remove o m k q) ∙ both q (R q k) ∙ sym (get-insert o m k v q))
        where
          both : (q : K) (r : Ordering) → cond (is_eq r) (Some v) (cond (is_eq r) None (get m q)) ≡ cond (is_eq r) (Some v) (get m q)
          both q Less = refl
          both q Equal = refl
          both q Greater = refl

      pub count-remove : (m : FinMap R X) (k : K) (v : X) → get m k ≡ Some v → count_by p (entries m) ≡ count_by p (entries (remove m k)) + one_if p (k, v)
      count-remove m k v there = ap (λ m. count_by p (entries m)) (sym (put_back m k v there)) ∙ count-insert (remove m k) k v (removed_here o same m k)

      pub count-replace : (m : FinMap R X) (k : K) (old v : X) → get m k ≡ Some old → count_by p (entries (insert m k v)) + one_if p (k, old) ≡ count_by p (entries m) + one_if p (k, v)
      count-replace m k old v there =
          let removed = count-remove m k old there in
          let anew = ap (λ m. count_by p (entries m)) (sym (put_anew m k v)) ∙ count-insert (remove m k) k v (removed_here o same m k) in
          omega arith

-- ---- of the values, and of the keys

module _ {K X : Type 0} where
  pub count-values : (p : X → Bool) (es : List (K × X)) → count_by p (values_of es) ≡ count_by (λ (e : K × X). p e.1) es
  count-values p [] = refl
  count-values p (e ∷ es) = count-cons p e.1 (values_of es) ∙ ap (λ n. one_if p e.1 + n) (count-values p es) ∙ sym (count-cons (λ (e : K × X). p e.1) e es)

  pub count-keys : (p : K → Bool) (es : List (K × X)) → count_by p (keys_of es) ≡ count_by (λ (e : K × X). p e.0) es
  count-keys p [] = refl
  count-keys p (e ∷ es) = count-cons p e.0 (keys_of es) ∙ ap (λ n. one_if p e.0 + n) (count-keys p es) ∙ sym (count-cons (λ (e : K × X). p e.0) e es)

-- ---- how the values of a map go on

module _ {K X : Type 0} (R : K → K → Ordering) (p : X → Bool) where
  abbrev of_value : K × X → Bool
  of_value e = p e.1

  count_values_of : (m : FinMap R X) → count_by p (values m) ≡ count_by of_value (entries m)
  count_values_of m = count-values p (entries m)

  module _ (o : IsTotalOrder R) where
    pub values-insert : (m : FinMap R X) (k : K) (v : X) → get m k ≡ None → count_by p (values (insert m k v)) ≡ count_by p (values m) + one_if p v
    values-insert m k v none = omega (arith, count_values_of (insert m k v), count-insert R of_value o m k v none, count_values_of m)

    module _ (same : IsAntisymmetric R) where
      pub values-remove : (m : FinMap R X) (k : K) (v : X) → get m k ≡ Some v → count_by p (values m) ≡ count_by p (values (remove m k)) + one_if p v
      values-remove m k v there = omega (arith, count_values_of m, count-remove R of_value o same m k v there, count_values_of (remove m k))

      pub values-replace : (m : FinMap R X) (k : K) (old v : X) → get m k ≡ Some old → count_by p (values (insert m k v)) + one_if p old ≡ count_by p (values m) + one_if p v
      values-replace m k old v there = omega (arith, count_values_of (insert m k v), count-replace R of_value o same m k old v there, count_values_of m)

-- Lists of entries whose keys strictly rise: they are the entries of their map.
use Rattle.std.proofs.Common.{◌≡◌, ◌≤◌, List, [], ◌∷◌, ◌++◌, Bool, true, false, ◌&&◌, None, ap, sym, refl, subst, ◌∙◌, length, arith}
use Rattle.std.proofs.lemmas.Bool.{and_parts, and_from}
use Rattle.std.specs.declared.cmp.Ordering.{Ordering}
use Rattle.std.specs.declared.cmp.Ordering.TheVariants.{Less, Equal, Greater}
use Rattle.std.specs.Ordering.{is_lt, ordering_reverse}
use Rattle.std.specs.Cmp.{IsTotalOrder}
use Rattle.std.proofs.Math.Dec.{T}
use Rattle.std.specs.FinMap.{FinMap, IsAntisymmetric, find, is_sorted, entries, entries_sorted, from_entries, get-entries, get-from_entries, empty, len-empty, len-entries}
use Rattle.std.specs.FinMap.Entries.{below_all, same_entries}

pub less : (r : Ordering) → is_lt r ≡ true → r ≡ Less
less Less e = refl
less Equal e = cc
less Greater e = cc

pub from_T : (b : Bool) → T b → b ≡ true
from_T true h = refl
from_T false h = absurd h

pub none_first : (b : Bool) → (b && false) ≡ false
none_first true = refl
none_first false = refl

module _ {K X : Type 0} (R : K → K → Ordering) where
  pub rises : (es : List (K × X)) → length es ≤ 1 → is_sorted R es ≡ true
  rises [] h = refl
  rises (e ∷ []) h = refl
  rises (e ∷ f ∷ es) h = absurd (omega arith)

  module _ (o : IsTotalOrder R) where
    below_more : (x y : K) (es : List (K × X)) → R x y ≡ Less → below_all R y es ≡ true → below_all R x es ≡ true
    below_more x y [] p h = refl
    below_more x y (e ∷ es) p h =
        let both = and_parts _ _ h in
        and_from _ _ (ap is_lt (o.trans x y e.0 p (less _ both.0))) (below_more x y es p both.1)

    -- the first two suffice for the first
    pub rises_on : (e f : K × X) (es : List (K × X)) → is_sorted R (e ∷ f ∷ es) ≡ (is_lt (R e.0 f.0) && is_sorted R (f ∷ es))
    rises_on e f es =
        elim (R e.0 f.0) as (λ r. R e.0 f.0 ≡ r → ((is_lt r && below_all R e.0 es) && (below_all R f.0 es && is_sorted R es)) ≡ (is_lt r && (below_all R f.0 es && is_sorted R es))) [
          | Less ↦ λ p. inner p (below_all R f.0 es) refl
          | Equal ↦ λ p. refl
          | Greater ↦ λ p. refl
        ] refl
      where
        inner : R e.0 f.0 ≡ Less → (b : Bool) → below_all R f.0 es ≡ b → (below_all R e.0 es && (b && is_sorted R es)) ≡ (b && is_sorted R es)
        inner p true is = ap (λ t. t && is_sorted R es) (below_more e.0 f.0 es p is)
        inner p false is = none_first (below_all R e.0 es)

    -- the key of a later entry is not found earlier
    pub find-earlier : (es : List (K × X)) (e : K × X) (later : List (K × X)) → is_sorted R (es ++ e ∷ later) ≡ true → find R e.0 es ≡ None
    find-earlier [] e later h = refl
    find-earlier (x ∷ es) e later h =
        let both = and_parts _ _ h in
        let above : R e.0 x.0 ≡ Greater = o.antisymm e.0 x.0 ∙ ap ordering_reverse (least x.0 es both.0) in
        rw above (find-earlier es e later both.1)
      where
        least : (k : K) (front : List (K × X)) → below_all R k (front ++ e ∷ later) ≡ true → R k e.0 ≡ Less
        least k [] h = less _ (and_parts _ _ h).0
        least k (y ∷ front) h = least k front (and_parts _ _ h).1

    pub entries-rising : IsAntisymmetric R → (es : List (K × X)) → is_sorted R es ≡ true → entries (from_entries {R = R} es) ≡ es
    entries-rising same es h = same_entries R o same _ es (entries_sorted (from_entries {R = R} es)) (subst T (sym h) tt) (λ q. sym (get-entries (from_entries {R = R} es) q) ∙ get-from_entries o es q)

pub entries-rise : {K X : Type 0} {R : K → K → Ordering} (m : FinMap R X) → is_sorted R (entries m) ≡ true
entries-rise m = from_T _ (entries_sorted m)

pub no_length : {A : Type 0} (es : List A) → length es ≡ 0 → es ≡ []
no_length [] e = refl
no_length (x ∷ es) e = absurd (omega arith)

pub entries-empty : {K : Type 0} (R : K → K → Ordering) (X : Type 0) → entries (empty {X = X} {R = R}) ≡ []
entries-empty R X = no_length _ (sym (len-entries empty) ∙ len-empty R X)

-- Lists of entries whose keys strictly rise, and which keys are found in them.
use Rattle.std.proofs.Common.{◌≡◌, List, [], ◌∷◌, ◌++◌, Bool, true, false, Option, Some, None, ap, refl, filter, cond}
use Rattle.std.proofs.lemmas.Bool.{and_parts, and_from}
use Rattle.std.specs.declared.cmp.Ordering.{Ordering}
use Rattle.std.specs.Prelude.{is_some}
use Rattle.std.specs.Ordering.{is_lt, eq_by_cmp}
use Rattle.std.specs.Cmp.{IsTotalOrder, eq_by_cmp_equiv}
use Rattle.std.specs.FinMap.{find, is_sorted}
use Rattle.std.specs.FinMap.Entries.{below_all}

module _ {K X : Type 0} (R : K → K → Ordering) (o : IsTotalOrder R) where
  -- an entry of a list is found in it
  pub found_there : (front : List (K × X)) (e : K × X) (later : List (K × X)) → is_some (find R e.0 (front ++ e ∷ later)) ≡ true
  found_there [] e later = ap (λ b. is_some (cond b (Some e.1) (find R e.0 later))) ((eq_by_cmp_equiv o).refl e.0)
  found_there (x ∷ front) e later = by (eq_by_cmp R e.0 x.0) (found_there front e later)
    where
      by : (b : Bool) → is_some (find R e.0 (front ++ e ∷ later)) ≡ true → is_some (cond b (Some x.1) (find R e.0 (front ++ e ∷ later))) ≡ true
      by true h = refl
      by false h = h

-- ---- some of the entries

module _ {K X : Type 0} (R : K → K → Ordering) (p : K × X → Bool) where
  below-filter : (k : K) (es : List (K × X)) → below_all R k es ≡ true → below_all R k (filter p es) ≡ true
  below-filter k [] h = refl
  below-filter k (e ∷ es) h = by (p e) (and_parts _ _ h) (below-filter k es (and_parts _ _ h).1)
    where
      by : (b : Bool) → (is_lt (R k e.0) ≡ true) × (below_all R k es ≡ true) → below_all R k (filter p es) ≡ true → below_all R k (cond b (e ∷ filter p es) (filter p es)) ≡ true
      by true both rest = and_from _ _ both.0 rest
      by false both rest = rest

  pub rising-filter : (es : List (K × X)) → is_sorted R es ≡ true → is_sorted R (filter p es) ≡ true
  rising-filter [] h = refl
  rising-filter (e ∷ es) h = by (p e) (below-filter e.0 es (and_parts _ _ h).0) (rising-filter es (and_parts _ _ h).1)
    where
      by : (b : Bool) → below_all R e.0 (filter p es) ≡ true → is_sorted R (filter p es) ≡ true → is_sorted R (cond b (e ∷ filter p es) (filter p es)) ≡ true
      by true below rest = and_from _ _ below rest
      by false below rest = rest

-- The paths between two bounds are those that start with the same bytes.
use Rattle.std.proofs.Common.{◌≡◌, ℕ, List, [], ◌∷◌, ◌++◌, Bool, true, false, cond, not, ◌&&◌, eqb, leb, filter, ap, sym, refl, ◌∙◌, arith}
use Rattle.std.proofs.lemmas.Bool.Decides.{nat_tests}
use Rattle.std.specs.declared.cmp.Ordering.{Ordering}
use Rattle.std.specs.declared.cmp.Ordering.TheVariants.{Less, Equal, Greater}
use Rattle.std.specs.Ordering.{nat_cmp, is_eq, is_le, is_gt, ordering_then}
use Rattle.std.specs.Cmp.{eq_by_cmp_equiv, nat_cmp_total}
use Rattle.std.specs.FinMap as map
use Rattle.std.specs.BTreeMap as tree
use Rattle.std.specs.BTreeMap.{BTreeMap}
use Rattle.ufs_model.specs.Directories.{starts_with}
use Rattle.ufs_model.specs.Order.{path_cmp}
use Rattle.ufs_calls.specs.Seen.{seen, keyed}
use Rattle.ufs_model.proofs.Facts.Lookups.{tied}
use Rattle.ufs_model.proofs.Facts.Orders.{path_total}
use Rattle.ufs_calls.proofs.Facts.Maps.{entries-seen}
use Rattle.ufs_tree.proofs.HolderLemmas.{number_ties}

-- at or after the one bound, and before the other
abbrev pub is_between : List ℕ → List ℕ → List ℕ → Bool
is_between lo hi q = is_le (path_cmp lo q) && not (is_le (path_cmp hi q))

le_then : (r s : Ordering) → is_le s ≡ true → is_le (ordering_then r s) ≡ is_le r
le_then Less s e = refl
le_then Equal s e = e
le_then Greater s e = refl

none_least : (q : List ℕ) → is_le (path_cmp [] q) ≡ true
none_least [] = refl
none_least (b ∷ q) = refl

le_test : (a b : ℕ) → is_le (nat_cmp a b) ≡ leb a b
le_test a b = grind (arith, nat_tests)

one_byte : (b : ℕ) → (leb 47 b && not (leb 48 b)) ≡ (eqb b 47 && true)
one_byte b = grind (arith, nat_tests)

pub between : (front q : List ℕ) → is_between (front ++ 47 ∷ []) (front ++ 48 ∷ []) q ≡ starts_with (front ++ 47 ∷ []) q
between [] [] = refl
between [] (b ∷ q) =
    (λ i. (le_then (nat_cmp 47 b) (path_cmp [] q) (none_least q) ∙ le_test 47 b) i && not ((le_then (nat_cmp 48 b) (path_cmp [] q) (none_least q) ∙ le_test 48 b) i))
    ∙ one_byte b
between (x ∷ front) [] = refl
between (x ∷ front) (b ∷ q) = by (nat_cmp x b) (number_ties x b) (between front q)
  where
    by : (r : Ordering) → is_eq r ≡ eqb b x → is_between (front ++ 47 ∷ []) (front ++ 48 ∷ []) q ≡ starts_with (front ++ 47 ∷ []) q
        → (is_le (ordering_then r (path_cmp (front ++ 47 ∷ []) q)) && not (is_le (ordering_then r (path_cmp (front ++ 48 ∷ []) q)))) ≡ (eqb b x && starts_with (front ++ 47 ∷ []) q)
    by Less e h = ap (λ t. t && starts_with (front ++ 47 ∷ []) q) e
    by Equal e h = h ∙ ap (λ t. t && starts_with (front ++ 47 ∷ []) q) e
    by Greater e h = ap (λ t. t && starts_with (front ++ 47 ∷ []) q) e

-- the bounds are in order
pub forward : (front : List ℕ) → is_gt (path_cmp (front ++ 47 ∷ []) (front ++ 48 ∷ [])) ≡ false
forward [] = refl
forward (x ∷ front) = ap (λ r. is_gt (ordering_then r (path_cmp (front ++ 47 ∷ []) (front ++ 48 ∷ [])))) (tied (nat_cmp x x) ((eq_by_cmp_equiv nat_cmp_total).refl x)) ∙ forward front

filter-keyed : {K X : Type 0} (key : K → List ℕ) (p : K → Bool) (q : List ℕ → Bool) → ((k : K) → p k ≡ q (key k)) → (es : List (K × X)) → keyed path_cmp key (filter (λ e. p e.0) es) ≡ filter (λ e. q e.0) (keyed path_cmp key es)
filter-keyed key p q same [] = refl
filter-keyed {K} {X} key p q same (e ∷ es) = by (p e.0) (q (key e.0)) (same e.0) (filter-keyed key p q same es)
  where
    by : (b c : Bool) → b ≡ c → keyed path_cmp key (filter (λ e. p e.0) es) ≡ filter (λ e. q e.0) (keyed path_cmp key es)
        → keyed path_cmp key (cond b (e ∷ filter (λ e. p e.0) es) (filter (λ e. p e.0) es)) ≡ cond c ((key e.0, e.1) ∷ filter (λ e. q e.0) (keyed path_cmp key es)) (filter (λ e. q e.0) (keyed path_cmp key es))
    by true true is rest = ap (λ es. (key e.0, e.1) ∷ es) rest
    by true false is rest = cc
    by false true is rest = cc
    by false false is rest = rest

-- the entries of a search tree between the two bounds
pub below_is : {K X : Type 0} (key : K → List ℕ) (m : BTreeMap K X) (lo hi front : List ℕ) → tree.IsOrdered (λ a b. path_cmp (key a) (key b)) m → lo ≡ front ++ 47 ∷ [] → hi ≡ front ++ 48 ∷ []
    → keyed path_cmp key (filter (λ e. is_between lo hi (key e.0)) m.entries) ≡ filter (λ e. starts_with (front ++ 47 ∷ []) e.0) (map.entries (seen path_cmp key m))
below_is key m lo hi front ordered l h =
    filter-keyed key (λ k. is_between lo hi (key k)) (starts_with (front ++ 47 ∷ [])) (λ k. (λ i. is_between (l i) (h i) (key k)) ∙ between front (key k)) m.entries
    ∙ ap (filter (λ e. starts_with (front ++ 47 ∷ []) e.0)) (sym (entries-seen path_cmp key path_total m ordered))

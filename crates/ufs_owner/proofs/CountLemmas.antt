-- Counts of lists, and a map whose new value is taken out again.
use Rattle.std.proofs.Common.{◌≡◌, ◌≤◌, List, [], ◌∷◌, Bool, cond, Some, None, ap, sym, refl, ◌∙◌, arith}
use Rattle.std.specs.declared.cmp.Ordering.{Ordering}
use Rattle.std.specs.declared.cmp.Ordering.TheVariants.{Less, Equal, Greater}
use Rattle.std.specs.List.{count_by}
use Rattle.std.specs.Ordering.{is_eq, eq_by_cmp}
use Rattle.std.specs.Cmp.{IsTotalOrder}
use Rattle.std.specs.FinMap.{FinMap, IsAntisymmetric, get, insert, remove, get-insert, get-remove, same_map}
use Rattle.ufs_counts.proofs.CountLemmas.{one_if, count-cons}

-- a test that is passed wherever another is counts no less
pub count-le : {X : Type 0} (p q : X → Bool) → ((x : X) → one_if p x ≤ one_if q x) → (xs : List X) → count_by p xs ≤ count_by q xs
count-le p q less [] = omega arith
count-le p q less (x ∷ xs) = omega (arith, count-cons p x xs, count-cons q x xs, less x, count-le p q less xs)

-- what was put there is taken out again
pub put_out : {K X : Type 0} {R : K → K → Ordering} (o : IsTotalOrder R) (same : IsAntisymmetric R) (m : FinMap R X) (k : K) (v : X) → remove (insert m k v) k ≡ remove m k
put_out {K} {X} {R} o same m k v = same_map o same _ _ (λ q. get-remove o (insert m k v) k q ∙ ap (cond (eq_by_cmp R q k) None) (get-insert o m k v q) ∙ both q (R q k) ∙ sym (get-remove o m k q))
  where
    both : (q : K) (r : Ordering) → cond (is_eq r) None (cond (is_eq r) (Some v) (get m q)) ≡ cond (is_eq r) None (get m q)
    both q Less = refl
    both q Equal = refl
    both q Greater = refl

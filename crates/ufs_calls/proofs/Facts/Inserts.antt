-- Insertions and removals at one key.
use Rattle.std.proofs.Common.{◌≡◌, cond, Some, None, ap, sym, refl, ◌∙◌}
use Rattle.std.specs.declared.cmp.Ordering.{Ordering}
use Rattle.std.specs.declared.cmp.Ordering.TheVariants.{Less, Equal, Greater}
use Rattle.std.specs.Ordering.{is_eq, eq_by_cmp}
use Rattle.std.specs.Cmp.{IsTotalOrder}
use Rattle.std.specs.FinMap.{FinMap, IsAntisymmetric, get, insert, remove, get-insert, get-remove, get_tied, same_map}

module _ {K X : Type 0} {R : K → K → Ordering} (o : IsTotalOrder R) (same : IsAntisymmetric R) where
  -- the later value stays
  pub insert_again : (m : FinMap R X) (k : K) (v w : X) → insert (insert m k v) k w ≡ insert m k w
  insert_again m k v w = same_map o same _ _ (λ q.
      get-insert o (insert m k v) k w q ∙ ap (cond (eq_by_cmp R q k) (Some w)) (get-insert o m k v q) ∙ both q (R q k) ∙ sym (get-insert o m k w q))
    where
      both : (q : K) (r : Ordering) → cond (is_eq r) (Some w) (cond (is_eq r) (Some v) (get m q)) ≡ cond (is_eq r) (Some w) (get m q)
      both q Less = refl
      both q Equal = refl
      both q Greater = refl

  -- the value that is there already changes nothing
  pub insert_same : (m : FinMap R X) (k : K) (v : X) → get m k ≡ Some v → insert m k v ≡ m
  insert_same m k v there = same_map o same _ _ (λ q. get-insert o m k v q ∙ both q (R q k) refl)
    where
      both : (q : K) (r : Ordering) → R q k ≡ r → cond (is_eq (R q k)) (Some v) (get m q) ≡ get m q
      both q Less is = rw is refl
      both q Equal is = rw is (sym there ∙ get_tied o m q k is)
      both q Greater is = rw is refl

  -- nothing is there to be removed
  pub remove_absent : (m : FinMap R X) (k : K) → get m k ≡ None → remove m k ≡ m
  remove_absent m k none = same_map o same _ _ (λ q. get-remove o m k q ∙ both q (R q k) refl)
    where
      both : (q : K) (r : Ordering) → R q k ≡ r → cond (is_eq r) None (get m q) ≡ get m q
      both q Less is = refl
      both q Equal is = sym none ∙ get_tied o m q k is
      both q Greater is = refl

  -- to remove a key that was just inserted gives back the map without it
  pub remove_inserted : (m : FinMap R X) (k : K) (v : X) → get m k ≡ None → remove (insert m k v) k ≡ m
  remove_inserted m k v none = same_map o same _ _ (λ q.
      get-remove o (insert m k v) k q ∙ ap (cond (eq_by_cmp R q k) None) (get-insert o m k v q) ∙ both q (R q k) refl)
    where
      both : (q : K) (r : Ordering) → R q k ≡ r → cond (is_eq r) None (cond (eq_by_cmp R q k) (Some v) (get m q)) ≡ get m q
      both q Less is = ap (λ b. cond b (Some v) (get m q)) (ap is_eq is)
      both q Equal is = sym none ∙ get_tied o m q k is
      both q Greater is = ap (λ b. cond b (Some v) (get m q)) (ap is_eq is)

-- What stands in a map is counted among its entries.
use Rattle.std.proofs.Common.{◌≡◌, ℕ, ◌+◌, ◌≤◌, Bool, true, false, cond, eqb, List, [], ◌∷◌, Some, None, map, ap, sym, refl, ◌∙◌, arith}
use Rattle.std.specs.Cmp.{nat_cmp_total}
use Rattle.std.specs.Ordering.{eq_by_cmp, nat_cmp}
use Rattle.std.specs.FinMap as fin
use Rattle.std.specs.FinMap.{nat_cmp-IsAntisymmetric}
use Rattle.ufs_model.proofs.Facts.Lookups.{one_key}
use Rattle.ufs_hand_laws.specs.Owned.{count, one}
use Rattle.ufs_hand_laws.proofs.Keys.{itself}

module _ {X D : Type 0} (f : X → D) where
  pub counted : (n : ℕ) (x : X) (es : List (ℕ × X)) → fin.find nat_cmp n es ≡ Some x → 1 ≤ count eqb n (map (λ e. (e.0, f e.1)) es)
  counted n x [] found = (let none : None ≡ Some x = found in absurd cc)
  counted n x (e ∷ es) found = by (eq_by_cmp nat_cmp n e.0) refl found (counted n x es)
    where
      by : (b : Bool) → eq_by_cmp nat_cmp n e.0 ≡ b → cond b (Some e.1) (fin.find nat_cmp n es) ≡ Some x → (fin.find nat_cmp n es ≡ Some x → 1 ≤ count eqb n (map (λ q. (q.0, f q.1)) es)) → 1 ≤ one (eqb n e.0) + count eqb n (map (λ q. (q.0, f q.1)) es)
      by true is at rest =
          let here : one (eqb n e.0) ≡ 1 = ap (λ (m : ℕ). one (eqb n m)) (sym (one_key nat_cmp_total nat_cmp-IsAntisymmetric n e.0 is)) ∙ ap one (itself n) in
          omega (arith, here)
      by false is at rest = let more = rest at in omega (arith, more)

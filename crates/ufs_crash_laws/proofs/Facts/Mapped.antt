-- What stands in a map with other values.
use Rattle.std.proofs.Common.{◌≡◌, List, [], ◌∷◌, Bool, true, false, cond, map, Some, ap, sym, refl, ◌∙◌}
use Rattle.std.specs.Option.{option_map}
use Rattle.std.specs.declared.cmp.Ordering.{Ordering}
use Rattle.std.specs.Ordering.{eq_by_cmp}
use Rattle.std.specs.Cmp.{IsTotalOrder}
use Rattle.std.specs.FinMap.{FinMap, get, find, entries, get-entries, get-from_entries}
use Rattle.ufs_crash_laws.specs.Mapped.{mapped}

module _ {K X Y : Type 0} {R : K → K → Ordering} (o : IsTotalOrder R) (f : X → Y) where
  find_mapped : (q : K) (es : List (K × X)) → find R q (map (λ e. (e.0, f e.1)) es) ≡ option_map f (find R q es)
  find_mapped q [] = refl
  find_mapped q (e ∷ es) = by (eq_by_cmp R q e.0) (find_mapped q es)
    where
      by : (b : Bool) → find R q (map (λ e. (e.0, f e.1)) es) ≡ option_map f (find R q es) → cond b (Some (f e.1)) (find R q (map (λ e. (e.0, f e.1)) es)) ≡ option_map f (cond b (Some e.1) (find R q es))
      by true rest = refl
      by false rest = rest

  pub get-mapped : (m : FinMap R X) (q : K) → get (mapped f m) q ≡ option_map f (get m q)
  get-mapped m q = get-from_entries o _ q ∙ find_mapped q (entries m) ∙ ap (option_map f) (sym (get-entries m q))

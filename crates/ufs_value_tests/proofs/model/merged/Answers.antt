use Rattle.std.proofs.Common.{◌∷◌, [], ℕ, List, nat_eq, refl, sym, subst}
use Rattle.std.specs.List.{IsDistinct}
use Rattle.ufs_value_tests.proofs.model.merged.Goals as goal

some_tickets : IsDistinct nat_eq (0 ∷ 4 ∷ 5 ∷ 1 ∷ 3 ∷ 2 ∷ [])
unfolding IsDistinct
some_tickets = (
  (refl, (refl, (refl, (refl, (refl, tt))))),
  (
    (refl, (refl, (refl, (refl, tt)))),
    ((refl, (refl, (refl, tt))), ((refl, (refl, tt)), ((refl, tt), (tt, tt)))),
  ),
)

pub merge-requires : goal.merge-requires
merge-requires c = record { once = subst (λ (l : List ℕ). IsDistinct nat_eq l) (sym c.in_ok-lists.ensures) some_tickets }

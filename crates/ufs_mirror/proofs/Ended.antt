-- What two legs are once they are joined.
use Rattle.std.proofs.Common.{◌≡◌, ◌<◌, ℕ, Some, sym, ◌∙◌, ap, arith}
use Rattle.ufs_disk.specs.Disk.{State, IsSettled, seen}
use Rattle.ufs_disk.proofs.Images.{seen_is_image}
use Rattle.ufs_mirror.specs.Labels.{generation}
use Rattle.ufs_mirror.specs.Labelled.{IsLabelled}
use Rattle.ufs_mirror.specs.Opens.{opened, unlabelled}
use Rattle.ufs_mirror.specs.Pairs.{state_of}
use Rattle.ufs_mirror.specs.declared.legs.Picks.{Picks}
use Rattle.ufs_mirror.specs.declared.legs.Picks.TheVariants.{Either, First, Second}
use Rattle.ufs_mirror.proofs.Begun.{first_opens, second_opens}
use Rattle.ufs_mirror.proofs.Views.{by_picks, seen_is, settled_either, settled_first, settled_second, shown, view_same}

module _ (size : ℕ) (a b : State) where
  shown_is : (picks which : Picks) → picks ≡ which → seen (state_of size (record { first = a; second = b; picks = picks })) ≡ unlabelled size (shown which (seen a) (seen b))
  shown_is picks which is = seen_is size (record { first = a; second = b; picks = picks }) ∙ ap (λ p. unlabelled size (shown p (seen a) (seen b))) is

  pub first_content : (picks : Picks) → (picks ≡ Second → ⊥) → seen (state_of size (record { first = a; second = b; picks = picks })) ≡ unlabelled size (seen a)
  first_content picks live = by_picks picks (λ is. shown_is picks Either is) (λ is. shown_is picks First is) (λ is. absurd (live is))

  pub second_content : (picks : Picks) → (picks ≡ First → ⊥) → (picks ≡ Either → (k : ℕ) → k < size → seen a k ≡ seen b k)
      → seen (state_of size (record { first = a; second = b; picks = picks })) ≡ unlabelled size (seen b)
  second_content picks live alike =
      by_picks picks (λ is. shown_is picks Either is ∙ view_same size (seen a) (seen b) (alike is)) (λ is. absurd (live is)) (λ is. shown_is picks Second is)

  pub first_ends_settled : (picks : Picks) → (picks ≡ Second → ⊥) → IsSettled a → (picks ≡ Either → IsSettled b) → (picks ≡ Either → (k : ℕ) → k < size → seen a k ≡ seen b k)
      → IsSettled (state_of size (record { first = a; second = b; picks = picks }))
  first_ends_settled picks live one other alike =
      by_picks picks (λ is. settled_either size a b picks is one (other is) (alike is)) (λ is. settled_first size a b picks is one) (λ is. absurd (live is))

  pub second_ends_settled : (picks : Picks) → (picks ≡ First → ⊥) → IsSettled b → (picks ≡ Either → IsSettled a) → (picks ≡ Either → (k : ℕ) → k < size → seen a k ≡ seen b k)
      → IsSettled (state_of size (record { first = a; second = b; picks = picks }))
  second_ends_settled picks live other one alike =
      by_picks picks (λ is. settled_either size a b picks is (one is) other (alike is)) (λ is. absurd (live is)) (λ is. settled_second size a b picks is other)

  either_opens : (n : ℕ) → 0 < n → generation (seen a size) ≡ n → generation (seen b size) ≡ n → opened size (seen a) (seen b) ≡ Some (unlabelled size (seen a))
  either_opens n some one other = first_opens size (seen a) (seen b) (omega (arith, some, one)) (omega (arith, one, other))

  pub first_ends_open : (n : ℕ) (picks : Picks) → 0 < n → (picks ≡ Second → ⊥) → IsLabelled size n (record { first = a; second = b; picks = picks })
      → (picks ≡ Either → (generation (seen a size) ≡ n) × (generation (seen b size) ≡ n))
      → opened size (seen a) (seen b) ≡ Some (seen (state_of size (record { first = a; second = b; picks = picks })))
  first_ends_open n picks some live labelled says =
      by_picks picks (λ is. let s = says is in either_opens n some s.0 s.1)
      (λ is. let one = labelled.first_picked is (seen a size) (seen_is_image a size) in let other = labelled.second_left is (seen b size) (seen_is_image b size) in
      first_opens size (seen a) (seen b) (omega (arith, some, one)) (omega (arith, one, other)))
      (λ is. absurd (live is))
      ∙ ap Some (sym (first_content picks live))

  pub second_ends_open : (n : ℕ) (picks : Picks) → 0 < n → (picks ≡ First → ⊥) → IsLabelled size n (record { first = a; second = b; picks = picks })
      → (picks ≡ Either → (generation (seen a size) ≡ n) × (generation (seen b size) ≡ n)) → (picks ≡ Either → (k : ℕ) → k < size → seen a k ≡ seen b k)
      → opened size (seen a) (seen b) ≡ Some (seen (state_of size (record { first = a; second = b; picks = picks })))
  second_ends_open n picks some live labelled says alike =
      by_picks picks (λ is. let s = says is in either_opens n some s.0 s.1 ∙ ap Some (view_same size (seen a) (seen b) (alike is)))
      (λ is. absurd (live is))
      (λ is. let one = labelled.first_left is (seen a size) (seen_is_image a size) in let other = labelled.second_picked is (seen b size) (seen_is_image b size) in
      second_opens size (seen a) (seen b) (omega (arith, one, other)))
      ∙ ap Some (sym (second_content picks live alike))

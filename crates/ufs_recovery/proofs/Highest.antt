-- The highest commit number of some inodes, one place after the other.
use Rattle.std.proofs.Common.{◌≡◌, ℕ, ◌+◌, ◌<◌, ◌≤◌, List, Option, Some, ap, sym, ◌∙◌, subst, ⊎_elim, get_or, length, refl, arith}
use Rattle.std.specs.List.{slice_get}
use Rattle.std.proofs.lemmas.Bool.{cases_lt}
use Rattle.std.proofs.lemmas.Option.{slice_get_read}
use Rattle.ufs_layout.specs.InodeForm.{InodeForm}

module _ (forms : List (Option InodeForm)) (i : ℕ) (form : InodeForm) (x : Option InodeForm) (inside : i < length forms) (is : x ≡ get_or forms i x) (some : x ≡ Some form) where
  -- the inode that stands there
  pub stands : slice_get forms i ≡ Some (Some form)
  stands = slice_get_read forms (length forms) i x refl inside is ∙ ap (λ (o : Option InodeForm). Some o) some

  pub most_so_far : (highest now : ℕ) → highest ≤ now → form.number ≤ now
      → ((place : ℕ) (f : InodeForm) → place < i → slice_get forms place ≡ Some (Some f) → f.number ≤ highest)
      → (place : ℕ) (f : InodeForm) → place < i + 1 → slice_get forms place ≡ Some (Some f) → f.number ≤ now
  most_so_far highest now left right so place f below at = ⊎_elim
      (λ (less : place < i). let h = so place f less at in omega (arith, h, left))
      (λ (not_less : i ≤ place).
      let here : i ≡ place = omega (arith, not_less, below) in
      let both : Some (Some form) ≡ Some (Some f) = sym stands ∙ ap (slice_get forms) here ∙ at in
      let same : form ≡ f = cc in
      subst (λ (g : InodeForm). g.number ≤ now) same right)
      (cases_lt place i)

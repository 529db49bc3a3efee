-- Paths as lists of components, one name at a time.
use Rattle.std.proofs.Common.{◌≡◌, ◌≢◌, ℕ, List, [], ◌∷◌, Bool, true, false, ap, sym, refl, ◌∙◌, bytes_eq, ◌&&◌}
use Rattle.std.specs.List.{starts_with}
use Rattle.ufs_model.specs.Paths.{components}
use Rattle.ufs_model.proofs.Facts.Pieces.{same_bytes, bytes_same}
use Rattle.ufs_lease.specs.Leases.{is_at_or_below}

module _ (above path : List ℕ) where
  by_names : (xs ys : List (List ℕ)) → components above ≡ xs → components path ≡ ys → is_at_or_below above path ≡ starts_with bytes_eq ys xs
  by_names xs ys e h = ap (λ ns. starts_with bytes_eq (components path) ns) e ∙ ap (λ ns. starts_with bytes_eq ns xs) h

  -- above the root there is nothing, so all is at it or below it
  pub below-all : components above ≡ [] → is_at_or_below above path ≡ true
  below-all e = by_names [] _ e refl

  -- a path that ends before the other does
  pub below-short : (name : List ℕ) (names : List (List ℕ)) → components above ≡ name ∷ names → components path ≡ [] → is_at_or_below above path ≡ false
  below-short name names e h = by_names _ _ e h

  -- another name
  pub below-other : (name own : List ℕ) (names rest : List (List ℕ)) → components above ≡ name ∷ names → components path ≡ own ∷ rest → own ≢ name → is_at_or_below above path ≡ false
  below-other name own names rest e h differs = by_names _ _ e h ∙ by (bytes_eq name own) refl
    where
      by : (t : Bool) → bytes_eq name own ≡ t → (t && starts_with bytes_eq rest names) ≡ false
      by true same = absurd (differs (sym (same_bytes name own same)))
      by false _ = refl

  -- the same name
  pub below-more : (name own after later : List ℕ) → components above ≡ name ∷ components after → components path ≡ own ∷ components later → own ≡ name → is_at_or_below above path ≡ is_at_or_below after later
  below-more name own after later e h same = by_names _ _ e h ∙ ap (λ t. t && is_at_or_below after later) (bytes_same name own (sym same))

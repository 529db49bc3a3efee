-- Rings by their places.
use Rattle.std.proofs.Common.{◌≡◌, ℕ, zero, suc, ◌<◌, ◌⊎◌, ⊎_elim, inl, inr, List, [], ◌∷◌, length, set, slice_get, get_or, Option, Some, None, Result, Ok, Err, MatchOption, MatchResult, refl, sym, ap, ◌∙◌, arith}
use Rattle.std.proofs.lemmas.List.{length-set}
use Rattle.ufs_msg.specs.Rows.{HappensAt, IsSoAt}

module _ {X : Type 0} where
  -- what stands at a place once the value at another was replaced
  pub get_set : (xs : List X) (i j : ℕ) (w r : X) → slice_get (set xs i w) j ≡ Some r → ((j ≡ i) × (w ≡ r)) ⊎ (slice_get xs j ≡ Some r)
  get_set [] i j w r e = inr e
  get_set (x ∷ xs) zero zero w r e = inl (refl, (let same = e in cc))
  get_set (x ∷ xs) zero (suc j) w r e = inr e
  get_set (x ∷ xs) (suc i) zero w r e = inr e
  get_set (x ∷ xs) (suc i) (suc j) w r e = ⊎_elim (λ (h : (j ≡ i) × (w ≡ r)). inl (ap suc h.0, h.1)) (λ h. inr h) (get_set xs i j w r e)

  -- a value that is put back where it stood
  pub set_same : (xs : List X) (i : ℕ) (w : X) → slice_get xs i ≡ Some w → set xs i w ≡ xs
  set_same [] i w e = refl
  set_same (x ∷ xs) zero w e = let same : x ≡ w = (let was = e in cc) in ap (λ y. y ∷ xs) (sym same)
  set_same (x ∷ xs) (suc i) w e = ap (λ l. x ∷ l) (set_same xs i w e)

module _ {G A : Type 0} (step : G → A → G → Type 0) (full : G → Type 0) where
  -- a put into the ring at a place
  pub put_there : (xs : List G) (i : ℕ) (item : A) (was is : G) (r : Result (Unit {0}) A) → slice_get xs i ≡ Some was → MatchResult r (λ _. step was item is) (λ x. (x ≡ item) × (is ≡ was) × full was)
      → MatchResult r (λ _. HappensAt step xs i item (set xs i is)) (λ x. (x ≡ item) × (set xs i is ≡ xs) × IsSoAt full xs i)
  put_there xs i item was is (Ok u) at h = record { was = was; is = is; stood = at; stands = refl; so = h }
  put_there xs i item was is (Err x) at h = (h.0, ap (λ w. set xs i w) h.1 ∙ set_same xs i was at, (was, at, h.2))

  -- a take from it
  pub take_there : (xs : List G) (i : ℕ) (was is : G) (r : Option A) → slice_get xs i ≡ Some was → MatchOption r ((is ≡ was) × full was) (λ x. step was x is)
      → MatchOption r ((set xs i is ≡ xs) × IsSoAt full xs i) (λ x. HappensAt step xs i x (set xs i is))
  take_there xs i was is None at h = (ap (λ w. set xs i w) h.0 ∙ set_same xs i was at, (was, at, h.1))
  take_there xs i was is (Some x) at h = record { was = was; is = is; stood = at; stands = refl; so = h }

-- what stands at a place, by another word for it
pub at_place : {X : Type 0} (xs : List X) (i : ℕ) (w : X) → i < length xs → w ≡ get_or xs i w → slice_get xs i ≡ Some w
at_place [] i w h e = absurd (omega arith)
at_place (x ∷ xs) zero w h e = ap Some (sym e)
at_place (x ∷ xs) (suc i) w h e = at_place xs i w (omega arith) e

-- there are as many rings afterwards
module _ {G A : Type 0} (step : G → A → G → Type 0) (P : Type 0) where
  happens_length : (old new : List G) (place : ℕ) (item : A) → HappensAt step old place item new → length new ≡ length old
  happens_length old new place item h = ap length h.stands ∙ length-set old place h.is

  pub put_length : (old new : List G) (place : ℕ) (item : A) (r : Result (Unit {0}) A) → MatchResult r (λ _. HappensAt step old place item new) (λ x. (x ≡ item) × (new ≡ old) × P) → length new ≡ length old
  put_length old new place item (Ok u) h = happens_length old new place item h
  put_length old new place item (Err x) h = ap length h.1

  pub taken_length : (old new : List G) (place : ℕ) (r : Option A) → MatchOption r ((new ≡ old) × P) (λ x. HappensAt step old place x new) → length new ≡ length old
  taken_length old new place None h = ap length h.0
  taken_length old new place (Some x) h = happens_length old new place x h

-- One of a list went on.
use Rattle.std.proofs.Common.{◌≡◌, ⊎_elim, ℕ, zero, suc, ◌+◌, ◌<◌, ◌≤◌, List, [], ◌∷◌, length, map, set, slice_get, Some, ap, refl, sym, ◌∙◌, subst, arith}
use Rattle.std.proofs.lemmas.Option.{slice_get_within}
use native.Mathlib.Decide.{dec_le}
use Rattle.ufs_msg.proofs.Places.{get_set}
use Rattle.ufs_msg.specs.Servers.{AreSame}
use Rattle.ufs_msg.specs.declared.servers.PerServer.{PerServer}

module _ {A B : Type 0} (f : A → B) where
  -- what is the same of it before and behind
  pub map_same : (xs : List A) (place : ℕ) (was is : A) → slice_get xs place ≡ Some was → f is ≡ f was → map f (set xs place is) ≡ map f xs
  map_same [] place was is at same = λ i. []
  map_same (x ∷ xs) zero was is at same = let stood : x ≡ was = (let e = at in cc) in λ i. (same ∙ ap f (sym stood)) i ∷ map f xs
  map_same (x ∷ xs) (suc place) was is at same = λ i. f x ∷ map_same xs place was is at same i

module _ {A : Type 0} (number : A → ℕ) (first : ℕ → ℕ) where
  -- each still has the number of its place
  pub numbered : (xs : List A) (place : ℕ) (was is : A) → ((i : ℕ) (x : A) → slice_get xs i ≡ Some x → number x ≡ first i) → slice_get xs place ≡ Some was → number is ≡ number was
      → (i : ℕ) (x : A) → slice_get (set xs place is) i ≡ Some x → number x ≡ first i
  numbered xs place was is all at same i x there =
      ⊎_elim (λ (h : (i ≡ place) × (is ≡ x)). ap number (sym h.1) ∙ same ∙ all place was at ∙ ap first (sym h.0)) (all i x) (get_set xs place i is x there)

module _ {P W : Type 0} where
  -- the same rings, one by one
  pub same_rings : (p q : PerServer P W) → q ≡ p → AreSame p q
  same_rings p q is = record { primary = ap (λ (r : PerServer P W). r.primary) is; workers = ap (λ (r : PerServer P W). r.workers.items) is }

-- nothing is left
pub no_items : {A : Type 0} (xs : List A) → length xs ≡ 0 → xs ≡ []
no_items [] none = refl
no_items (x ∷ xs) none = absurd (omega (arith, none))

-- what is so of each of the first ones, and of the next one
pub below_next : {A : Type 0} (P : A → Type 0) (xs : List A) (i : ℕ) (y : A) → ((place : ℕ) (x : A) → place < i → slice_get xs place ≡ Some x → P x) → slice_get xs i ≡ Some y → P y
    → (place : ℕ) (x : A) → place < i + 1 → slice_get xs place ≡ Some x → P x
below_next {A} P xs i y all at is place x low there = by (dec_le (suc place) i)
  where
    one_value : Some y ≡ Some x → y ≡ x
    one_value e = cc

    by : Dec (suc place ≤ i) → P x
    by (yes less) = all place x less there
    by (no over) = let same : place ≡ i = omega (arith, low, over) in subst P (one_value (sym at ∙ ap (slice_get xs) (sym same) ∙ there)) is

-- and where these are all
pub below_all : {A : Type 0} (P : A → Type 0) (xs : List A) (i : ℕ) → length xs ≤ i → ((place : ℕ) (x : A) → place < i → slice_get xs place ≡ Some x → P x) → (place : ℕ) (x : A) → slice_get xs place ≡ Some x → P x
below_all P xs i all each place x there = let low = slice_get_within xs place x there in each place x (omega (arith, low, all)) there

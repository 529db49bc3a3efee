-- Lists: what holds of all items, and what stands round a place.
use Rattle.std.proofs.Common.{◌≡◌, ℕ, zero, suc, ◌+◌, ◌<◌, List, [], ◌∷◌, ◌++◌, Bool, true, false, cond, length, filter, take, drop, get_or, ap, sym, ◌∙◌, drop-cons, add-one, take-append-drop}
use Rattle.std.specs.List.{AllByRecursion}

pub all_map : {X : Type 0} (P R : X → Type 0) → ((x : X) → P x → R x) → (xs : List X) → AllByRecursion P xs → AllByRecursion R xs
all_map P R f [] p = tt
all_map P R f (x ∷ xs) p = (f x p.0, all_map P R f xs p.1)

pub all_map₂ : {X : Type 0} (P Q R : X → Type 0) → ((x : X) → P x → Q x → R x) → (xs : List X) → AllByRecursion P xs → AllByRecursion Q xs → AllByRecursion R xs
all_map₂ P Q R f [] p q = tt
all_map₂ P Q R f (x ∷ xs) p q = (f x p.0 q.0, all_map₂ P Q R f xs p.1 q.1)

pub all_take : {X : Type 0} (P : X → Type 0) (n : ℕ) (xs : List X) → AllByRecursion P xs → AllByRecursion P (take n xs)
all_take P zero xs h = tt
all_take P (suc n) [] h = tt
all_take P (suc n) (x ∷ xs) h = (h.0, all_take P n xs h.1)

pub all_filter : {X : Type 0} (P : X → Type 0) (p : X → Bool) (xs : List X) → AllByRecursion P xs → AllByRecursion P (filter p xs)
all_filter P p [] h = tt
all_filter P p (x ∷ xs) h = by (p x) (all_filter P p xs h.1)
  where
    by : (b : Bool) → AllByRecursion P (filter p xs) → AllByRecursion P (cond b (x ∷ filter p xs) (filter p xs))
    by true rest = (h.0, rest)
    by false rest = rest

-- the items from a place on
pub from_place : {X : Type 0} (xs : List X) (i : ℕ) (d : X) → i < length xs → drop i xs ≡ get_or xs i d ∷ drop (i + 1) xs
from_place xs i d below = drop-cons xs i d below ∙ ap (λ k. get_or xs i d ∷ drop k xs) (sym (add-one i))

-- and those before it
pub round_place : {X : Type 0} (xs : List X) (i : ℕ) (d : X) → i < length xs → xs ≡ take i xs ++ get_or xs i d ∷ drop (i + 1) xs
round_place xs i d below = sym (take-append-drop i xs) ∙ ap (λ rest. take i xs ++ rest) (from_place xs i d below)

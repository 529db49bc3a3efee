-- The part of a list in order that passes a test.
use Rattle.std.proofs.Common.{◌≡◌, ℕ, zero, suc, List, [], ◌∷◌, Bool, true, false, ◌||◌, take, drop, refl, ap, sym, ◌∙◌, arith}
use Rattle.std.specs.Prelude.{if◌then◌else◌, not, map}
use Rattle.std.specs.List.{All, filter, list_any}
use Rattle.std.specs.List.Sorted.{IsPartitionPoint}
use Rattle.std.proofs.lemmas.Map.Views.{any-filter_same}
use Rattle.std.proofs.lemmas.List.Elements.{All-head, All-tail}
use Rattle.ufs_found.proofs.Buckets.{filter_none}

pub any_kept : {X : Type 0} (p q : X → Bool) → ((x : X) → p x ≡ true → q x ≡ true) → (xs : List X) → list_any p (filter q xs) ≡ list_any p xs
any_kept p q passes xs = any-filter_same p q true passes xs

pub any_map : {X Y : Type 0} (g : X → Y) (p : Y → Bool) (xs : List X) → list_any p (map g xs) ≡ list_any (λ x. p (g x)) xs
any_map g p [] = refl
any_map g p (x ∷ xs) = ap (λ b. p (g x) || b) (any_map g p xs)

no_not : (b : Bool) → b ≡ true → not b ≡ false
no_not true is = refl
no_not false is = sym is

yes_not : (b : Bool) → b ≡ false → not b ≡ true
yes_not true is = sym is
yes_not false is = refl

filter_whole : {X : Type 0} (p : X → Bool) (xs : List X) → All (λ x. p x ≡ true) xs → filter p xs ≡ xs
filter_whole p [] every = refl
filter_whole p (x ∷ xs) every =
    (λ i. if All-head (λ x. p x ≡ true) x xs every i then x ∷ filter p xs else filter p xs) ∙ ap (λ l. x ∷ l) (filter_whole p xs (All-tail (λ x. p x ≡ true) x xs every))

-- behind a partition point
pub behind_point : {X : Type 0} (p : X → Bool) (xs : List X) (i : ℕ) → IsPartitionPoint (λ y. p y ≡ true) (λ y. p y ≡ false) xs i → drop i xs ≡ filter (λ x. not (p x)) xs
behind_point p [] zero point = refl
behind_point p [] (suc i) point = refl
behind_point p (x ∷ xs) zero point = sym (filter_whole (λ y. not (p y)) (x ∷ xs) (λ k d lt. yes_not _ (point.1 k d (omega arith) lt)))
behind_point p (x ∷ xs) (suc i) point =
    behind_point p xs i ((λ k d low lt. point.0 (suc k) d (omega arith) (omega (arith, lt))), (λ k d low lt. point.1 (suc k) d (omega (arith, low)) (omega (arith, lt))))
    ∙ (λ j. if sym (no_not (p x) (point.0 0 x (omega arith) (omega arith))) j then x ∷ filter (λ y. not (p y)) xs else filter (λ y. not (p y)) xs)

-- and before it
pub before_point : {X : Type 0} (p : X → Bool) (xs : List X) (i : ℕ) → IsPartitionPoint (λ y. p y ≡ true) (λ y. p y ≡ false) xs i → take i xs ≡ filter p xs
before_point p [] zero point = refl
before_point p [] (suc i) point = refl
before_point p (x ∷ xs) zero point = sym (filter_none p (x ∷ xs) (λ k d lt. point.1 k d (omega arith) lt))
before_point p (x ∷ xs) (suc i) point =
    ap (λ l. x ∷ l) (before_point p xs i ((λ k d low lt. point.0 (suc k) d (omega arith) (omega (arith, lt))), (λ k d low lt. point.1 (suc k) d (omega (arith, low)) (omega (arith, lt)))))
    ∙ (λ j. if sym (point.0 0 x (omega arith) (omega arith)) j then x ∷ filter p xs else filter p xs)

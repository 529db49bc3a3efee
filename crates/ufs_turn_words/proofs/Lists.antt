-- Lists, item by item.
use Rattle.std.proofs.Common.{◌≡◌, ◌≤◌, ℕ, zero, suc, List, [], ◌∷◌, ◌++◌, length, map, take, None, Some, slice_get, refl, ap, subst, arith}
use Rattle.std.specs.List.{AllByRecursion}

pub length_push : {A : Type 0} (xs : List A) (x : A) → length (xs ++ x ∷ []) ≡ suc (length xs)
length_push [] x = refl
length_push (y ∷ xs) x = ap suc (length_push xs x)

-- one item more of those in order
pub map_more : {A B : Type 0} (f : A → B) (xs : List A) (i : ℕ) (x : A) → slice_get xs i ≡ Some x → map f (take (suc i) xs) ≡ map f (take i xs) ++ f x ∷ []
map_more f [] i x at = absurd (let none : None ≡ Some x = at in cc)
map_more f (y ∷ xs) zero x at = let same : y ≡ x = cc in λ j. f (same j) ∷ []
map_more f (y ∷ xs) (suc i) x at = λ j. f y ∷ map_more f xs i x at j

pub map_whole : {A B : Type 0} (f : A → B) (xs : List A) (i : ℕ) → length xs ≤ i → map f (take i xs) ≡ map f xs
map_whole f [] zero low = refl
map_whole f [] (suc i) low = refl
map_whole f (x ∷ xs) zero low = absurd (omega (arith, low))
map_whole f (x ∷ xs) (suc i) low = λ j. f x ∷ map_whole f xs i (omega (arith, low)) j

-- what is so of each is so of this one
pub each_there : {A : Type 0} (P : A → Type 0) (xs : List A) (i : ℕ) (x : A) → AllByRecursion P xs → slice_get xs i ≡ Some x → P x
each_there P [] i x all at = absurd (let none : None ≡ Some x = at in cc)
each_there P (y ∷ xs) zero x all at = let same : y ≡ x = cc in subst P same all.0
each_there P (y ∷ xs) (suc i) x all at = each_there P xs i x all.1 at

-- Lists of names that begin with others.
use Rattle.std.proofs.Common.{◌≡◌, ◌≢◌, ℕ, ◌⊎◌, inl, inr, List, [], ◌∷◌, ◌++◌, Bool, true, false, length, ap, sym, refl, arith, length-append}
use Rattle.std.specs.Str.{bytes_eq}
use Rattle.std.proofs.lemmas.Bool.{both_ways}
use Rattle.std.proofs.lemmas.List.{append_cancel_left}
use Rattle.std.proofs.lemmas.Slice.Eq.{bytes_eq-Decides}

pub one_name : (x y : List ℕ) → (x ≡ y) ⊎ (x ≢ y)
one_name x y = by (bytes_eq x y) refl
  where
    by : (b : Bool) → bytes_eq x y ≡ b → (x ≡ y) ⊎ (x ≢ y)
    by true e = inl ((bytes_eq-Decides x y).0 e)
    by false e = inr (λ same. both_ways (bytes_eq x y) e ((bytes_eq-Decides x y).1 same))

-- the second begins with the first
abbrev pub Begins : List (List ℕ) → List (List ℕ) → Type 0
Begins xs ys = (rest : List (List ℕ)) × (ys ≡ xs ++ rest)

abbrev pub NotBegins : List (List ℕ) → List (List ℕ) → Type 0
NotBegins xs ys = (rest : List (List ℕ)) → ys ≢ xs ++ rest

same_head : (x y : List ℕ) (xs ys : List (List ℕ)) → x ∷ xs ≡ y ∷ ys → x ≡ y
same_head x y xs ys e = cc

same_tail : (x y : List ℕ) (xs ys : List (List ℕ)) → x ∷ xs ≡ y ∷ ys → xs ≡ ys
same_tail x y xs ys e = cc

pub begins_or_not : (xs ys : List (List ℕ)) → Begins xs ys ⊎ NotBegins xs ys
begins_or_not [] ys = inl (ys, refl)
begins_or_not (x ∷ xs) [] = inr (λ rest e. cc)
begins_or_not (x ∷ xs) (y ∷ ys) = by (one_name x y) (begins_or_not xs ys)
  where
    by : (x ≡ y) ⊎ (x ≢ y) → Begins xs ys ⊎ NotBegins xs ys → Begins (x ∷ xs) (y ∷ ys) ⊎ NotBegins (x ∷ xs) (y ∷ ys)
    by (inl e) (inl begins) = inl (begins.0, (λ i. sym e i ∷ begins.1 i))
    by (inl e) (inr not) = inr (λ rest same. not rest (same_tail y x ys (xs ++ rest) same))
    by (inr other) begins = inr (λ rest same. other (sym (same_head y x ys (xs ++ rest) same)))

-- of two that one list begins with, one begins with the other
pub one_begins : (xs ys a b : List (List ℕ)) → xs ++ a ≡ ys ++ b → Begins xs ys ⊎ Begins ys xs
one_begins [] ys a b e = inl (ys, refl)
one_begins (x ∷ xs) [] a b e = inr (x ∷ xs, refl)
one_begins (x ∷ xs) (y ∷ ys) a b e = by (one_begins xs ys a b (same_tail x y (xs ++ a) (ys ++ b) e))
  where
    head : x ≡ y
    head = same_head x y (xs ++ a) (ys ++ b) e

    by : Begins xs ys ⊎ Begins ys xs → Begins (x ∷ xs) (y ∷ ys) ⊎ Begins (y ∷ ys) (x ∷ xs)
    by (inl begins) = inl (begins.0, (λ i. sym head i ∷ begins.1 i))
    by (inr begins) = inr (begins.0, (λ i. head i ∷ begins.1 i))

pub same_rest : (xs a b : List (List ℕ)) → xs ++ a ≡ xs ++ b → a ≡ b
same_rest xs a b e = append_cancel_left xs a b e

-- a list doesn't begin with a longer one
pub no_more : (xs : List (List ℕ)) (x : List ℕ) (rest : List (List ℕ)) → xs ≢ (xs ++ x ∷ []) ++ rest
no_more xs x rest e = omega (arith, ap length e, length-append (xs ++ x ∷ []) rest, length-append xs (x ∷ []))

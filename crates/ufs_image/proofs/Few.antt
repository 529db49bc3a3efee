-- Lists with one element at most.
use Rattle.std.proofs.Common.{◌≡◌, ℕ, zero, suc, ◌+◌, ◌<◌, ◌≤◌, inl, inr, List, [], ◌∷◌, ◌++◌, Bool, true, false, cond, length, Some, ap, sym, refl, ◌∙◌, subst, arith, length-append}
use Rattle.std.specs.Prelude.{flat_map, filter}
use Rattle.std.specs.List.{range_with_len, slice_get}
use Rattle.ufs_image.proofs.Lists.{IsIn, in_filter, in_flat_map}
use Rattle.ufs_image.proofs.Listed.{place_of_in, in_at_place}
use Rattle.ufs_image.proofs.Empty.{empty_filter, empty_flat_map, empty, false_if_not, from_range}

pub some_in : {X : Type 0} (xs : List X) (x : X) → IsIn x xs → 1 ≤ length xs
some_in [] x is = absurd is
some_in (y ∷ xs) x is = omega arith

pub no_more : {X : Type 0} (xs : List X) → length xs ≤ 0 → xs ≡ []
no_more [] h = refl
no_more (x ∷ xs) h = absurd (omega (arith, h))

-- ---- one place passes

pub few_filter : {X : Type 0} (p : X → Bool) (xs : List X) → ((a b : ℕ) (x y : X) → slice_get xs a ≡ Some x → slice_get xs b ≡ Some y → p x ≡ true → p y ≡ true → a ≡ b) → length (filter p xs) ≤ 1
few_filter p [] one = omega arith
few_filter p (x ∷ xs) one = by (p x) refl (few_filter p xs (λ a b y z at there is are. let same : suc a ≡ suc b = one (suc a) (suc b) y z at there is are in omega (arith, same)))
  where
    by : (b : Bool) → p x ≡ b → length (filter p xs) ≤ 1 → length (cond b (x ∷ filter p xs) (filter p xs)) ≤ 1
    by false t more = more
    by true t more =
        let none : filter p xs ≡ [] = empty_filter p xs (λ y is. false_if_not (p y) (λ h. let at = place_of_in y xs is in let same : 0 ≡ suc at.0 = one 0 (suc at.0) x y refl at.1 t h in omega (arith, same))) in
        let size : length (filter p xs) ≡ 0 = ap length none in
        omega (arith, size)

pub filter_few : {X : Type 0} (p : X → Bool) (xs : List X) → length (filter p xs) ≤ 1 → (a b : ℕ) (x y : X) → slice_get xs a ≡ Some x → slice_get xs b ≡ Some y → p x ≡ true → p y ≡ true → a ≡ b
filter_few p [] few a b x y at there is are = let no = at in cc
filter_few p (z ∷ xs) few zero zero x y at there is are = refl
filter_few p (z ∷ xs) few zero (suc b) x y at there is are =
    let head : z ≡ x = cc in
    let more = some_in (filter p xs) y (in_filter p xs y (in_at_place y xs b there) are) in
    let size : suc (length (filter p xs)) ≤ 1 = subst (λ t. length (cond t (z ∷ filter p xs) (filter p xs)) ≤ 1) (ap p head ∙ is) few in
    absurd (omega (arith, more, size))
filter_few p (z ∷ xs) few (suc a) zero x y at there is are =
    let head : z ≡ y = cc in
    let more = some_in (filter p xs) x (in_filter p xs x (in_at_place x xs a at) is) in
    let size : suc (length (filter p xs)) ≤ 1 = subst (λ t. length (cond t (z ∷ filter p xs) (filter p xs)) ≤ 1) (ap p head ∙ are) few in
    absurd (omega (arith, more, size))
filter_few p (z ∷ xs) few (suc a) (suc b) x y at there is are = ap suc (filter_few p xs (by (p z) few) a b x y at there is are)
  where
    by : (t : Bool) → length (cond t (z ∷ filter p xs) (filter p xs)) ≤ 1 → length (filter p xs) ≤ 1
    by true h = omega (arith, h)
    by false h = h

-- ---- one number of a range gives something

pub few_flat_map : {Y : Type 0} (f : ℕ → List Y) (a n : ℕ) → ((k : ℕ) → a ≤ k → k < a + n → length (f k) ≤ 1)
    → ((k l : ℕ) (x y : Y) → a ≤ k → k < a + n → a ≤ l → l < a + n → IsIn x (f k) → IsIn y (f l) → k ≡ l) → length (flat_map f (range_with_len a n)) ≤ 1
few_flat_map f a zero each one = omega arith
few_flat_map {Y} f a (suc n) each one =
    by (f a) refl (few_flat_map f (a + 1) n (λ k from under. each k (omega (arith, from)) (omega (arith, under))) (λ k l x y fk uk fl ul. one k l x y (omega (arith, fk)) (omega (arith, uk)) (omega (arith, fl)) (omega (arith, ul))))
  where
    by : (ys : List Y) → f a ≡ ys → length (flat_map f (range_with_len (a + 1) n)) ≤ 1 → length (f a ++ flat_map f (range_with_len (a + 1) n)) ≤ 1
    by [] is more = let size : length (f a ++ flat_map f (range_with_len (a + 1) n)) ≡ length (flat_map f (range_with_len (a + 1) n)) = ap (λ ys. length (ys ++ flat_map f (range_with_len (a + 1) n))) is in omega (arith, more, size)
    by (y ∷ ys) is more =
        let here : IsIn y (f a) = subst (IsIn y) (sym is) (inl refl) in
        let none : flat_map f (range_with_len (a + 1) n) ≡ [] = empty_flat_map f (range_with_len (a + 1) n) (λ k there. let at = from_range (a + 1) n k there in empty (f k) (λ z is. let same : a ≡ k = one a k y z (omega arith) (omega arith) (omega (arith, at.0)) (omega (arith, at.1)) here is in omega (arith, same, at.0))) in
        let size : length (f a ++ flat_map f (range_with_len (a + 1) n)) ≡ length (f a) + length (flat_map f (range_with_len (a + 1) n)) = length-append (f a) (flat_map f (range_with_len (a + 1) n)) in
        let rest : length (flat_map f (range_with_len (a + 1) n)) ≡ 0 = ap length none in
        let first = each a (omega arith) (omega arith) in
        omega (arith, size, rest, first)

pub flat_map_each : {Y : Type 0} (f : ℕ → List Y) (a n : ℕ) → length (flat_map f (range_with_len a n)) ≤ 1 → (k : ℕ) → IsIn k (range_with_len a n) → length (f k) ≤ 1
flat_map_each f a zero few k is = absurd is
flat_map_each f a (suc n) few k (inl e) =
    let size = length-append (f a) (flat_map f (range_with_len (a + 1) n)) in
    let same : length (f k) ≡ length (f a) = ap (λ m. length (f m)) e in
    omega (arith, few, size, same)
flat_map_each f a (suc n) few k (inr is) =
    let size = length-append (f a) (flat_map f (range_with_len (a + 1) n)) in
    flat_map_each f (a + 1) n (omega (arith, few, size)) k is

pub flat_map_one : {Y : Type 0} (f : ℕ → List Y) (a n : ℕ) → length (flat_map f (range_with_len a n)) ≤ 1 → (k l : ℕ) (x y : Y) → IsIn k (range_with_len a n) → IsIn l (range_with_len a n) → IsIn x (f k) → IsIn y (f l) → k ≡ l
flat_map_one f a zero few k l x y is are here there = absurd is
flat_map_one f a (suc n) few k l x y (inl e) (inl h) here there = e ∙ sym h
flat_map_one f a (suc n) few k l x y (inl e) (inr are) here there =
    let size = length-append (f a) (flat_map f (range_with_len (a + 1) n)) in
    let one = some_in (f a) x (subst (λ m. IsIn x (f m)) e here) in
    let two = some_in (flat_map f (range_with_len (a + 1) n)) y (in_flat_map f (range_with_len (a + 1) n) l y are there) in
    absurd (omega (arith, few, size, one, two))
flat_map_one f a (suc n) few k l x y (inr is) (inl h) here there =
    let size = length-append (f a) (flat_map f (range_with_len (a + 1) n)) in
    let one = some_in (f a) y (subst (λ m. IsIn y (f m)) h there) in
    let two = some_in (flat_map f (range_with_len (a + 1) n)) x (in_flat_map f (range_with_len (a + 1) n) k x is here) in
    absurd (omega (arith, few, size, one, two))
flat_map_one f a (suc n) few k l x y (inr is) (inr are) here there =
    let size = length-append (f a) (flat_map f (range_with_len (a + 1) n)) in
    flat_map_one f (a + 1) n (omega (arith, few, size)) k l x y is are here there

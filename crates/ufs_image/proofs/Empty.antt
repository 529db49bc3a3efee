-- Lists with nothing in them.
use Rattle.std.proofs.Common.{◌≡◌, ◌≢◌, ℕ, zero, suc, ◌+◌, ◌<◌, ◌≤◌, ◌⊎◌, inl, inr, List, [], ◌∷◌, ◌++◌, Bool, true, false, cond, Option, Some, None, map, ap, sym, refl, ◌∙◌, arith}
use Rattle.std.specs.Prelude.{flat_map, filter, ◌==◌, ◌&&◌, ◌||◌}
use Rattle.std.specs.List.{range_with_len, filter_map, cons_option, list_any}
use Rattle.std.proofs.lemmas.Bool.Decides.{nat_tests}
use Rattle.std.proofs.lemmas.List.Elements.{filter-append}
use Rattle.ufs_image.proofs.Lists.{IsIn, in_filter, in_flat_map}

-- what nothing is in is empty
pub empty : {X : Type 0} (xs : List X) → ((x : X) → IsIn x xs → ⊥) → xs ≡ []
empty [] none = refl
empty (x ∷ xs) none = absurd (none x (inl refl))

pub none_in : {X : Type 0} (xs : List X) → xs ≡ [] → (x : X) → IsIn x xs → ⊥
none_in [] e x is = is
none_in (y ∷ xs) e x is = let no = e in cc

pub both_empty : {X : Type 0} (xs ys : List X) → xs ++ ys ≡ [] → (xs ≡ []) × (ys ≡ [])
both_empty [] ys e = (refl, e)
both_empty (x ∷ xs) ys e = let no = e in cc

pub append_empty : {X : Type 0} (xs ys : List X) → xs ≡ [] → ys ≡ [] → xs ++ ys ≡ []
append_empty [] ys e h = h
append_empty (x ∷ xs) ys e h = let no = e in cc

pub map_empty : {X Y : Type 0} (f : X → Y) (xs : List X) → map f xs ≡ [] → xs ≡ []
map_empty f [] e = refl
map_empty f (x ∷ xs) e = let no = e in cc

-- ---- tests that nothing passes

pub false_if_not : (b : Bool) → (b ≡ true → ⊥) → b ≡ false
false_if_not true not = absurd (not refl)
false_if_not false not = refl

pub not_both : (b : Bool) → b ≡ false → b ≡ true → ⊥
not_both b e h = let no = sym e ∙ h in cc

pub filter_empty : {X : Type 0} (p : X → Bool) (xs : List X) → filter p xs ≡ [] → (x : X) → IsIn x xs → p x ≡ false
filter_empty p xs e x is = false_if_not (p x) (λ h. none_in (filter p xs) e x (in_filter p xs x is h))

pub empty_filter : {X : Type 0} (p : X → Bool) (xs : List X) → ((x : X) → IsIn x xs → p x ≡ false) → filter p xs ≡ []
empty_filter p [] none = refl
empty_filter p (x ∷ xs) none = ap (λ b. cond b (x ∷ filter p xs) (filter p xs)) (none x (inl refl)) ∙ empty_filter p xs (λ y is. none y (inr is))

pub flat_map_empty : {X Y : Type 0} (f : X → List Y) (xs : List X) → flat_map f xs ≡ [] → (x : X) → IsIn x xs → f x ≡ []
flat_map_empty f xs e x is = empty (f x) (λ y there. none_in (flat_map f xs) e y (in_flat_map f xs x y is there))

pub empty_flat_map : {X Y : Type 0} (f : X → List Y) (xs : List X) → ((x : X) → IsIn x xs → f x ≡ []) → flat_map f xs ≡ []
empty_flat_map f [] none = refl
empty_flat_map f (x ∷ xs) none = append_empty (f x) (flat_map f xs) (none x (inl refl)) (empty_flat_map f xs (λ y is. none y (inr is)))

pub filter_map_empty : {X Y : Type 0} (f : X → Option Y) (xs : List X) → filter_map f xs ≡ [] → (x : X) → IsIn x xs → f x ≡ None
filter_map_empty f [] e x is = absurd is
filter_map_empty {X} {Y} f (z ∷ xs) e x is = by (f z) refl e is (λ h there. filter_map_empty f xs h x there)
  where
    by : (o : Option Y) → f z ≡ o → cons_option o (filter_map f xs) ≡ [] → IsIn x (z ∷ xs) → (filter_map f xs ≡ [] → IsIn x xs → f x ≡ None) → f x ≡ None
    by None is e (inl same) more = ap f same ∙ is
    by None is e (inr there) more = more e there
    by (Some y) is e there more = let no = e in cc

pub empty_filter_map : {X Y : Type 0} (f : X → Option Y) (xs : List X) → ((x : X) → IsIn x xs → f x ≡ None) → filter_map f xs ≡ []
empty_filter_map f [] none = refl
empty_filter_map f (x ∷ xs) none = ap (λ o. cons_option o (filter_map f xs)) (none x (inl refl)) ∙ empty_filter_map f xs (λ y is. none y (inr is))

pub list_any_false : {X : Type 0} (p : X → Bool) (xs : List X) → list_any p xs ≡ false → (x : X) → IsIn x xs → p x ≡ false
list_any_false p [] e x is = absurd is
list_any_false p (y ∷ xs) e x is = by (p y) refl e is (λ h there. list_any_false p xs h x there)
  where
    by : (b : Bool) → p y ≡ b → (b || list_any p xs) ≡ false → IsIn x (y ∷ xs) → (list_any p xs ≡ false → IsIn x xs → p x ≡ false) → p x ≡ false
    by true t e there more = let no = e in cc
    by false t e (inl same) more = ap p same ∙ t
    by false t e (inr there) more = more e there

pub false_list_any : {X : Type 0} (p : X → Bool) (xs : List X) → ((x : X) → IsIn x xs → p x ≡ false) → list_any p xs ≡ false
false_list_any p [] none = refl
false_list_any p (x ∷ xs) none = ap (λ b. b || list_any p xs) (none x (inl refl)) ∙ false_list_any p xs (λ y is. none y (inr is))

-- ---- ranges

one_or_above : (k a : ℕ) → a ≤ k → (k ≡ a) ⊎ (a + 1 ≤ k)
one_or_above zero zero h = inl refl
one_or_above zero (suc a) h = absurd (omega (arith, h))
one_or_above (suc k) zero h = inr (omega arith)
one_or_above (suc k) (suc a) h = lift (one_or_above k a (omega (arith, h)))
  where
    lift : (k ≡ a) ⊎ (a + 1 ≤ k) → (suc k ≡ suc a) ⊎ (suc a + 1 ≤ suc k)
    lift (inl e) = inl (ap suc e)
    lift (inr f) = inr (omega (arith, f))

pub in_range : (a n k : ℕ) → a ≤ k → k < a + n → IsIn k (range_with_len a n)
in_range a zero k from under = absurd (omega (arith, from, under))
in_range a (suc n) k from under = by (one_or_above k a from) (λ above. in_range (a + 1) n k above (omega (arith, under)))
  where
    by : (k ≡ a) ⊎ (a + 1 ≤ k) → (a + 1 ≤ k → IsIn k (range_with_len (a + 1) n)) → IsIn k (a ∷ range_with_len (a + 1) n)
    by (inl e) more = inl e
    by (inr f) more = inr (more f)

pub from_range : (a n k : ℕ) → IsIn k (range_with_len a n) → (a ≤ k) × (k < a + n)
from_range a zero k is = absurd is
from_range a (suc n) k (inl e) = (omega (arith, e), omega (arith, e))
from_range a (suc n) k (inr is) = let rest = from_range (a + 1) n k is in (omega (arith, rest.0), omega (arith, rest.1))

-- ---- lists made in two steps

abbrev pub by_option : {X Y : Type 0} → (X → List Y) → Option X → List Y
by_option f None = []
by_option f (Some x) = f x

pub flat_map-filter_map : {X Y Z : Type 0} (f : Y → List Z) (s : X → Option Y) (xs : List X) → flat_map f (filter_map s xs) ≡ flat_map (λ x. by_option f (s x)) xs
flat_map-filter_map f s [] = refl
flat_map-filter_map {X} {Y} f s (x ∷ xs) = by (s x) ∙ ap (λ zs. by_option f (s x) ++ zs) (flat_map-filter_map f s xs)
  where
    by : (o : Option Y) → flat_map f (cons_option o (filter_map s xs)) ≡ by_option f o ++ flat_map f (filter_map s xs)
    by None = refl
    by (Some y) = refl

pub flat_map-filter : {X Y : Type 0} (f : X → List Y) (p : X → Bool) (xs : List X) → flat_map f (filter p xs) ≡ flat_map (λ x. cond (p x) (f x) []) xs
flat_map-filter f p [] = refl
flat_map-filter f p (x ∷ xs) = by (p x) ∙ ap (λ zs. cond (p x) (f x) [] ++ zs) (flat_map-filter f p xs)
  where
    by : (b : Bool) → flat_map f (cond b (x ∷ filter p xs) (filter p xs)) ≡ cond b (f x) [] ++ flat_map f (filter p xs)
    by true = refl
    by false = refl

pub filter-flat_map : {X Y : Type 0} (p : Y → Bool) (f : X → List Y) (xs : List X) → filter p (flat_map f xs) ≡ flat_map (λ x. filter p (f x)) xs
filter-flat_map p f [] = refl
filter-flat_map p f (x ∷ xs) = filter-append p (f x) (flat_map f xs) ∙ ap (λ zs. filter p (f x) ++ zs) (filter-flat_map p f xs)

-- ---- tests

pub both_true : (a b : Bool) → a ≡ true → b ≡ true → (a && b) ≡ true
both_true a b is_a is_b = rw (is_a, is_b) refl

pub apart_false : (a b : ℕ) → a ≢ b → (a == b) ≡ false
apart_false a b apart = false_if_not (a == b) (λ e. apart (grind (arith, nat_tests, e)))

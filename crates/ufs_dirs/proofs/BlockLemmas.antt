-- Lists of different numbers: how many there can be, and where each stands.
use Rattle.std.proofs.Common.{◌≡◌, ◌≢◌, ℕ, zero, suc, ◌+◌, ◌<◌, ◌≤◌, List, [], ◌∷◌, ◌++◌, Bool, false, cond, eqb, ltb, length, get_or, ap, sym, refl, ◌∙◌, arith, nat_eq, add-one}
use Rattle.std.specs.List.{All, AllByRecursion, IsDistinct, count_by, list_any, position_or_len}
use Rattle.std.proofs.lemmas.Bool.{ne_eqb, eq-eqb, both_ways, lt-ltb}
use Rattle.std.proofs.lemmas.Bool.Decides.{nat_tests, Decides-eqb}
use Rattle.std.proofs.lemmas.List.Sums.{sum_by-cons, position_or_len_is}
use Rattle.std.proofs.lemmas.List.Folds.{list_any_at}
use Rattle.std.proofs.lemmas.List.Elements.{All-get_or}
use Rattle.std.proofs.lemmas.List.Quantifiers.{all_pairs_push}
use Rattle.std.proofs.lemmas.Map.Made.{AllPairs-from_IsDistinct, IsDistinct-from_AllPairs}

count_by-cons : (p : ℕ → Bool) (x : ℕ) (xs : List ℕ) → count_by p (x ∷ xs) ≡ cond (p x) 1 0 + count_by p xs
count_by-cons p x xs = sum_by-cons (λ y. cond (p y) 1 0) x xs

-- how many of them are below n
abbrev below : ℕ → List ℕ → ℕ
below n xs = count_by (λ x. ltb x n) xs

-- how many of them are n
abbrev times : ℕ → List ℕ → ℕ
times n xs = count_by (λ x. eqb x n) xs

below-next : (n : ℕ) (xs : List ℕ) → below (n + 1) xs ≡ below n xs + times n xs
below-next n [] = refl
below-next n (x ∷ xs) =
    grind (arith, nat_tests, count_by-cons (λ y. ltb y (n + 1)) x xs, count_by-cons (λ y. ltb y n) x xs, count_by-cons (λ y. eqb y n) x xs, below-next n xs)

none_below : (xs : List ℕ) → below 0 xs ≡ 0
none_below [] = refl
none_below (x ∷ xs) = grind (arith, nat_tests, count_by-cons (λ y. ltb y 0) x xs, none_below xs)

none_same : (n x : ℕ) (xs : List ℕ) → AllByRecursion (λ y. nat_eq x y ≡ false) xs → x ≡ n → times n xs ≡ 0
none_same n x [] apart same = refl
none_same n x (y ∷ ys) apart same =
    let differs : eqb y n ≡ false = ne_eqb y n (λ e. both_ways (nat_eq x y) apart.0 (eq-eqb x y (same ∙ sym e))) in
    count_by-cons (λ z. eqb z n) y ys ∙ ap (λ b. cond b 1 0 + times n ys) differs ∙ omega (arith, none_same n x ys apart.1 same)

at_most_once : (n : ℕ) (xs : List ℕ) → IsDistinct nat_eq xs → times n xs ≤ 1
unfolding IsDistinct
at_most_once n [] distinct = omega arith
at_most_once n (x ∷ xs) distinct =
    grind (arith, nat_tests, count_by-cons (λ y. eqb y n) x xs, at_most_once n xs distinct.1, none_same n x xs distinct.0)

few_below : (n : ℕ) (xs : List ℕ) → IsDistinct nat_eq xs → below n xs ≤ n
few_below zero xs distinct = omega (arith, none_below xs)
few_below (suc n) xs distinct = omega (arith, ap (λ (k : ℕ). below k xs) (add-one n), below-next n xs, at_most_once n xs distinct, few_below n xs distinct)

all_below : (n : ℕ) (xs : List ℕ) → ((k : ℕ) → k < length xs → get_or xs k 0 < n) → below n xs ≡ length xs
all_below n [] each = refl
all_below n (x ∷ xs) each =
    let first : x < n = each 0 (omega arith) in
    let rest = all_below n xs (λ k h. each (suc k) (omega arith)) in
    count_by-cons (λ y. ltb y n) x xs ∙ ap (λ b. cond b 1 0 + below n xs) (lt-ltb x n first) ∙ omega (arith, rest)

-- Different numbers below n are at most n.
pub length-distinct : (n : ℕ) (xs : List ℕ) → IsDistinct nat_eq xs → All (λ x. x < n) xs → length xs ≤ n
length-distinct n xs distinct all =
    omega (arith, few_below n xs distinct, all_below n xs (λ k h. All-get_or (λ x. x < n) xs k 0 h all))

-- A number stands first where it stands.
pub position-distinct : (xs : List ℕ) → IsDistinct nat_eq xs → (i x : ℕ) → i < length xs → x ≡ get_or xs i 0 → position_or_len (λ b. eqb b x) xs ≡ i
position-distinct xs distinct i x inside is =
    let apart = AllPairs-from_IsDistinct Decides-eqb xs distinct in
    position_or_len_is (λ b. eqb b x) xs i 0 (omega arith) (λ k h. ne_eqb (get_or xs k 0) x (λ e. apart k i 0 h inside (e ∙ is))) (λ h. eq-eqb (get_or xs i 0) x (sym is))

pub distinct_none : IsDistinct nat_eq []
unfolding IsDistinct
distinct_none = tt

-- A new number behind different ones.
pub distinct_push : (xs : List ℕ) (y : ℕ) → IsDistinct nat_eq xs → list_any (λ b. eqb b y) xs ≡ false → IsDistinct nat_eq (xs ++ y ∷ [])
distinct_push xs y distinct absent =
    IsDistinct-from_AllPairs Decides-eqb (xs ++ y ∷ [])
    (all_pairs_push (λ a b. a ≢ b) xs y (AllPairs-from_IsDistinct Decides-eqb xs distinct) (λ k d h e. both_ways (list_any (λ b. eqb b y) xs) absent (list_any_at (λ b. eqb b y) xs k d h (eq-eqb (get_or xs k d) y e))))

-- Tests over a range of numbers that none, or the first alone, passes.
use Rattle.std.proofs.Common.{ℕ, zero, suc, ◌≡◌, ◌+◌, ◌<◌, ◌≤◌, [], Bool, true, false, Option, None, refl, ap, ◌∙◌, arith}
use Rattle.std.specs.Prelude.{IsTrue, filter}
use Rattle.std.specs.List.{range_with_len, find, filter_map, list_all}
use Rattle.ufs_layout.proofs.Spelled.{both}

pub filter-none : (p : ℕ → Bool) (a n : ℕ) → ((k : ℕ) → a ≤ k → k < a + n → p k ≡ false) → filter p (range_with_len a n) ≡ []
filter-none p a zero never = refl
filter-none p a (suc n) never = rw (never a (omega arith) (omega arith)) (filter-none p (a + 1) n (λ k at under. never k (omega arith) (omega arith)))

pub find-none : (p : ℕ → Bool) (a n : ℕ) → ((k : ℕ) → p k ≡ false) → find p (range_with_len a n) ≡ None
find-none p a zero never = refl
find-none p a (suc n) never = rw (never a) (find-none p (a + 1) n never)

pub filter_map-none : {Y : Type 0} (f : ℕ → Option Y) (a n : ℕ) → ((k : ℕ) → a ≤ k → k < a + n → f k ≡ None) → filter_map f (range_with_len a n) ≡ []
filter_map-none f a zero never = refl
filter_map-none f a (suc n) never = rw (never a (omega arith) (omega arith)) (filter_map-none f (a + 1) n (λ k at under. never k (omega arith) (omega arith)))

pub list_all-range : (p : ℕ → Bool) (a n : ℕ) → ((k : ℕ) → a ≤ k → k < a + n → p k ≡ true) → IsTrue (list_all p (range_with_len a n))
list_all-range p a zero always = refl
list_all-range p a (suc n) always = rw (always a (omega arith) (omega arith)) (list_all-range p (a + 1) n (λ k at under. always k (omega arith) (omega arith)))

-- A test that all of a range pass is passed by each.
pub range-list_all : (p : ℕ → Bool) (a n : ℕ) → list_all p (range_with_len a n) ≡ true → (i : ℕ) → i < n → p (a + i) ≡ true
range-list_all p a zero passed i under = absurd (omega arith)
range-list_all p a (suc n) passed zero under = let same : a + 0 ≡ a = omega arith in ap p same ∙ (both (p a) (list_all p (range_with_len (a + 1) n)) passed).0
range-list_all p a (suc n) passed (suc i) under =
    let same : a + suc i ≡ a + 1 + i = omega arith in
    ap p same ∙ range-list_all p (a + 1) n (both (p a) (list_all p (range_with_len (a + 1) n)) passed).1 i (omega arith)

-- the same of a range from 0
pub below-list_all : (p : ℕ → Bool) (n : ℕ) → list_all p (range_with_len 0 n) ≡ true → (i : ℕ) → i < n → p i ≡ true
below-list_all p n passed i under = let same : i ≡ 0 + i = omega arith in ap p same ∙ range-list_all p 0 n passed i under

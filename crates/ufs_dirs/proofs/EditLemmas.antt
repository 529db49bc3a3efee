-- Where the elements of a list stand once one is put in or taken out.
use Rattle.std.proofs.Common.{◌≡◌, ◌≢◌, ℕ, ◌+◌, ◌-◌, ◌<◌, ◌≤◌, List, true, eqb, length, get_or, ap, refl, ◌∙◌, arith, inl, inr}
use Rattle.std.specs.List.{insert, list_any, remove}
use Rattle.std.proofs.lemmas.Bool.{cases_lt, eq-eqb}
use Rattle.std.proofs.lemmas.List.Edits.{length-insert, get_or-insert_below, get_or-insert_at, get_or-insert_above, length-remove, get_or-remove_below, get_or-remove_above}
use Rattle.std.proofs.lemmas.List.Folds.{list_any_at}

-- a number that stands in a list
pub is_there : (xs : List ℕ) (k x : ℕ) → k < length xs → get_or xs k 0 ≡ x → list_any (λ q. eqb q x) xs ≡ true
is_there xs k x inside is = list_any_at (λ q. eqb q x) xs k 0 inside (eq-eqb (get_or xs k 0) x is)

-- the list with y at a place
module _ (xs : List ℕ) (at y : ℕ) (within : at ≤ length xs) where
  pub put_below : (k : ℕ) → k < at → get_or (insert xs at y) k 0 ≡ get_or xs k 0
  put_below k h = get_or-insert_below xs at y 0 k h within

  pub put_here : (k : ℕ) → k ≡ at → get_or (insert xs at y) k 0 ≡ y
  put_here k same = ap (λ (j : ℕ). get_or (insert xs at y) j 0) same ∙ get_or-insert_at xs at y 0 within

  pub put_above : (k : ℕ) → at < k → get_or (insert xs at y) k 0 ≡ get_or xs (k - 1) 0
  put_above k h =
      let back : k ≡ k - 1 + 1 = omega arith in
      ap (λ (j : ℕ). get_or (insert xs at y) j 0) back ∙ get_or-insert_above xs at y 0 (k - 1) (omega arith) within

  -- the others are still there
  pub put_there : (j x : ℕ) → j < length xs → get_or xs j 0 ≡ x → list_any (λ q. eqb q x) (insert xs at y) ≡ true
  put_there j x h is =
      let size = length-insert xs at y within in
      elim (cases_lt j at) [
        | inl low ↦ is_there (insert xs at y) j x (omega (arith, size)) (put_below j low ∙ is)
        | inr high ↦
            let back : j + 1 - 1 ≡ j = omega arith in
            is_there (insert xs at y) (j + 1) x (omega (arith, size)) (put_above (j + 1) (omega arith) ∙ ap (λ (k : ℕ). get_or xs k 0) back ∙ is)
      ]

-- the list without the element at a place
module _ (xs : List ℕ) (at : ℕ) (inside : at < length xs) where
  -- where an element stood
  pub old_rank : (k : ℕ) → k < length (remove xs at) → (j : ℕ) × (j < length xs) × (j ≢ at) × (get_or (remove xs at) k 0 ≡ get_or xs j 0) × (k ≤ j) × (j ≤ k + 1) × (k < at → j ≡ k) × (at ≤ k → j ≡ k + 1)
  old_rank k h =
      let size = length-remove xs at inside in
      elim (cases_lt k at) [
        | inl low ↦ (k, omega (arith, size), (λ e. omega arith), get_or-remove_below xs at 0 k low inside, omega arith, omega arith, (λ _. refl), (λ le. absurd (omega arith)))
        | inr high ↦ (k + 1, omega (arith, size), (λ e. omega arith), get_or-remove_above xs at 0 k high inside, omega arith, omega arith, (λ less. absurd (omega arith)), (λ _. refl))
      ]

  -- elements keep their order
  pub old_rising : (j k : ℕ) (h : j < length (remove xs at)) (h' : k < length (remove xs at)) → j < k → (old_rank j h).0 < (old_rank k h').0
  old_rising j k h h' less =
      let a = old_rank j h in
      let b = old_rank k h' in
      elim (cases_lt k at) [
        | inl low ↦ omega (arith, a.6 (omega arith), b.6 low)
        | inr high ↦ omega (arith, a.5, b.7 high)
      ]

  -- the others are still there
  pub left_there : (j x : ℕ) → j < length xs → get_or xs j 0 ≡ x → j ≢ at → list_any (λ q. eqb q x) (remove xs at) ≡ true
  left_there j x h is differs =
      let size = length-remove xs at inside in
      elim (cases_lt j at) [
        | inl low ↦ is_there (remove xs at) j x (omega (arith, size)) (get_or-remove_below xs at 0 j low inside ∙ is)
        | inr high ↦
            let above : at < j = omega (arith, differs) in
            let back : j - 1 + 1 ≡ j = omega arith in
            is_there (remove xs at) (j - 1) x (omega (arith, size)) (get_or-remove_above xs at 0 (j - 1) (omega arith) inside ∙ ap (λ (k : ℕ). get_or xs k 0) back ∙ is)
      ]

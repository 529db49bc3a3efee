-- Two numbers, two runs and two states of a file are the same or not.
use Rattle.std.proofs.Common.{◌≡◌, ◌≢◌, ◌⊎◌, inl, inr, ℕ, List, [], ◌∷◌, Bool, true, false, refl, ap, arith}
use Rattle.std.specs.Prelude.{◌==◌}
use Rattle.std.proofs.lemmas.Bool.Decides.{nat_tests}
use Rattle.ufs_extent.specs.declared.Run.{Run}
use Rattle.ufs_ilog.specs.Deltas.{FileState}

same_number : (x y : ℕ) → (x ≡ y) ⊎ (x ≢ y)
same_number x y = by (x == y) refl
  where
    by : (b : Bool) → (x == y) ≡ b → (x ≡ y) ⊎ (x ≢ y)
    by true e = inl (grind (arith, nat_tests, e))
    by false e = inr (λ same. grind (arith, nat_tests, e, same))

pub same_run : (x y : Run) → (x ≡ y) ⊎ (x ≢ y)
same_run x y = by (same_number x.start y.start) (same_number x.length y.length)
  where
    by : (x.start ≡ y.start) ⊎ (x.start ≢ y.start) → (x.length ≡ y.length) ⊎ (x.length ≢ y.length) → (x ≡ y) ⊎ (x ≢ y)
    by (inl a) (inl b) = inl (λ i. record { start = a i; length = b i })
    by (inl a) (inr not) = inr (λ e. not (ap (λ (r : Run). r.length) e))
    by (inr not) b = inr (λ e. not (ap (λ (r : Run). r.start) e))

first_same : (x y : Run) (xs ys : List Run) → x ∷ xs ≡ y ∷ ys → x ≡ y
first_same x y xs ys e = cc

rest_same : (x y : Run) (xs ys : List Run) → x ∷ xs ≡ y ∷ ys → xs ≡ ys
rest_same x y xs ys e = cc

same_runs : (xs ys : List Run) → (xs ≡ ys) ⊎ (xs ≢ ys)
same_runs [] [] = inl refl
same_runs [] (y ∷ ys) = inr (λ e. cc)
same_runs (x ∷ xs) [] = inr (λ e. cc)
same_runs (x ∷ xs) (y ∷ ys) = by (same_run x y) (same_runs xs ys)
  where
    by : (x ≡ y) ⊎ (x ≢ y) → (xs ≡ ys) ⊎ (xs ≢ ys) → (x ∷ xs ≡ y ∷ ys) ⊎ (x ∷ xs ≢ y ∷ ys)
    by (inl a) (inl b) = inl (λ i. a i ∷ b i)
    by (inl a) (inr not) = inr (λ e. not (rest_same x y xs ys e))
    by (inr not) b = inr (λ e. not (first_same x y xs ys e))

pub same_or_other : (x y : FileState) → (x ≡ y) ⊎ (x ≢ y)
same_or_other x y = by (same_runs x.runs y.runs) (same_number x.size y.size)
  where
    by : (x.runs ≡ y.runs) ⊎ (x.runs ≢ y.runs) → (x.size ≡ y.size) ⊎ (x.size ≢ y.size) → (x ≡ y) ⊎ (x ≢ y)
    by (inl a) (inl b) = inl (λ i. record { runs = a i; size = b i })
    by (inl a) (inr not) = inr (λ e. not (ap (λ (s : FileState). s.size) e))
    by (inr not) b = inr (λ e. not (ap (λ (s : FileState). s.runs) e))

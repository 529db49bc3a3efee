-- What is told of the form and the mark at each place.
use Rattle.std.proofs.Common.{◌≡◌, ℕ, zero, suc, refl, ◌<◌, ◌≤◌, ◌⊎◌, inl, inr, List, [], ◌∷◌, ◌++◌, length, get_or, Bool, false, Option, Some, None, ap, sym, ◌∙◌, arith}
use Rattle.std.specs.List.{slice_get}
use Rattle.std.proofs.lemmas.List.{length-append}
use Rattle.std.proofs.lemmas.Bool.{cases_lt}
use Rattle.ufs_layout.specs.InodeForm.{InodeForm}
use Rattle.ufs_recovery.specs.Cleared.{Numbers}
use Rattle.ufs_recovery.specs.Orphans.{AreTold}

get_front : {X : Type 0} (xs : List X) (x : X) (k : ℕ) → k < length xs → slice_get (xs ++ x ∷ []) k ≡ slice_get xs k
get_front [] x k less = absurd (omega (arith, less))
get_front (y ∷ xs) x zero less = refl
get_front (y ∷ xs) x (suc k) less = get_front xs x k (omega (arith, less))

get_back : {X : Type 0} (xs : List X) (x : X) → slice_get (xs ++ x ∷ []) (length xs) ≡ Some x
get_back [] x = refl
get_back (y ∷ xs) x = get_back xs x

pub told_more : (test : Option InodeForm → Bool → Option ℕ) (forms : List (Option InodeForm)) (marks : List Bool) (old new : Numbers) (x : Option ℕ) (n : ℕ) → length old ≡ n → new ≡ old ++ x ∷ []
    → x ≡ test (get_or forms n None) (get_or marks n false) → AreTold test forms marks old → AreTold test forms marks new
told_more test forms marks old new x n long is told so_far place less = by (cases_lt place (length old))
  where
    by : (place < length old) ⊎ (length old ≤ place) → slice_get new place ≡ Some (test (get_or forms place None) (get_or marks place false))
    by (inl before) = ap (λ (l : Numbers). slice_get l place) is ∙ get_front old x place before ∙ so_far place before
    by (inr from) =
        let all = length-append old (x ∷ []) in
        let size : length new ≡ length (old ++ x ∷ []) = ap (λ (l : Numbers). length l) is in
        let here : place ≡ length old = omega (arith, less, size, all, from) in
        ap (λ (l : Numbers). slice_get l place) is ∙ ap (slice_get (old ++ x ∷ [])) here ∙ get_back old x ∙ ap Some told ∙ ap (λ k. Some (test (get_or forms k None) (get_or marks k false))) (sym (here ∙ long))

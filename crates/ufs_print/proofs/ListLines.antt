-- The lines of a list, one after the other, as they are written.
use Rattle.std.proofs.Common.{◌≡◌, inl, ℕ, ◌+◌, ◌<◌, List, [], ◌∷◌, ◌++◌, Option, ap, sym, subst, refl, ◌∙◌, length, take, drop, get_or, append_assoc, suc}
use Rattle.std.specs.Prelude.{flat_map}
use Rattle.std.proofs.lemmas.List.{append-nil, take_more, take-append-drop}
use Rattle.std.proofs.Math.Seq.{drop-cons}
use Rattle.ufs_print.specs.Pieces.{GotFront, IsPassed, PutLines}
use Rattle.ufs_print.proofs.PieceLemmas.{front_more, front_passed, no_lines, passed_both}
use Rattle.ufs_print.proofs.WriteLemmas.{IsEnded, ended_both}

module _ {X : Type 0} (xs : List X) (i : ℕ) (x : X) (below : i < length xs) (is : x ≡ get_or xs i x) where
  -- a list, at a place
  pub split_at : xs ≡ take i xs ++ x ∷ drop (suc i) xs
  split_at = sym (take-append-drop i xs) ∙ ap (λ r. take i xs ++ r) (drop-cons xs i x below ∙ ap (λ y. y ∷ drop (suc i) xs) (sym is))

  pub taken_more : take (i + 1) xs ≡ take i xs ++ x ∷ []
  taken_more = take_more xs i x below ∙ ap (λ y. take i xs ++ y ∷ []) (sym is)

module _ {X : Type 0} (own : X → List ℕ) where
  pub lines-append : (xs ys : List X) → flat_map own (xs ++ ys) ≡ flat_map own xs ++ flat_map own ys
  lines-append [] ys = refl
  lines-append (x ∷ xs) ys = ap (λ rest. own x ++ rest) (lines-append xs ys) ∙ sym (append_assoc (own x) (flat_map own xs) (flat_map own ys))

  pub all_ended : ((x : X) → IsEnded (own x)) → (xs : List X) → IsEnded (flat_map own xs)
  all_ended ended [] = inl refl
  all_ended ended (x ∷ xs) = ended_both (own x) (flat_map own xs) (ended x) (all_ended ended xs)

  module _ (xs : List X) (i : ℕ) (x : X) (below : i < length xs) (is : x ≡ get_or xs i x) where
    -- one more adds its line
    with_own : flat_map own (take (i + 1) xs) ≡ flat_map own (take i xs) ++ own x
    with_own = ap (flat_map own) (taken_more xs i x below is) ∙ lines-append (take i xs) (x ∷ []) ∙ ap (λ r. flat_map own (take i xs) ++ r) (append-nil (own x))

    -- all lines: those before, its own, and those after it
    all_lines : flat_map own xs ≡ (flat_map own (take i xs) ++ own x) ++ flat_map own (drop (suc i) xs)
    all_lines = ap (flat_map own) (split_at xs i x below is) ∙ lines-append (take i xs) (x ∷ drop (suc i) xs) ∙ sym (append_assoc (flat_map own (take i xs)) (own x) (flat_map own (drop (suc i) xs)))

    module _ (old mid new : Option (List ℕ)) (first second third : List ℕ) (wrote : IsPassed old mid second (first ++ flat_map own (take i xs))) where
      pub more_put : IsPassed mid new third (second ++ own x) → IsPassed old new third (first ++ flat_map own (take (i + 1) xs))
      more_put last = subst (λ (text : List ℕ). IsPassed old new third (first ++ text)) (sym with_own) (passed_both old mid new first second third (flat_map own (take i xs)) wrote (own x) last)

      -- the sink failed in its line
      pub cut_there : GotFront mid new (second ++ own x) → GotFront old new (first ++ flat_map own xs)
      cut_there part =
          subst (λ (text : List ℕ). GotFront old new (first ++ text)) (sym all_lines)
          (front_more old new first (flat_map own (take i xs) ++ own x) (flat_map own (drop (suc i) xs)) (front_passed old mid new first second third (flat_map own (take i xs)) wrote (own x) part))

      -- there was no memory for its line
      pub starved_there : ((y : X) → IsEnded (own y)) → new ≡ mid → third ≡ second → PutLines old new third first (flat_map own xs)
      starved_there ended kept waits =
          subst (PutLines old new third first) (sym (all_lines ∙ append_assoc (flat_map own (take i xs)) (own x) (flat_map own (drop (suc i) xs))))
          (no_lines old mid new first second third (flat_map own (take i xs)) (own x ++ flat_map own (drop (suc i) xs)) (all_ended ended (take i xs)) wrote kept waits)

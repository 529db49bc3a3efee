-- The walk along components, a component at a time.
use Rattle.std.proofs.Common.{◌≡◌, ℕ, zero, suc, ◌+◌, ◌-◌, ◌≤◌, ◌<◌, List, [], ◌∷◌, ◌++◌, None, length, take, drop, ap, sym, refl, ◌∙◌, arith, append-nil, append_assoc, add-one, length-drop}
use Rattle.std.specs.FinMap as map
use Rattle.ufs_base.specs.Choices.{first_of}
use Rattle.ufs_model.specs.Paths.{whole_path}
use Rattle.ufs_model.specs.PosixTree.{Paths}
use Rattle.ufs_model.specs.Walk.{walk_refusal_from, dir_refusal}

module _ (paths : Paths) where
  step : (above names : List (List ℕ)) (n : ℕ) → suc n < length names
      → walk_refusal_from paths (above ++ take n names) (drop n names)
      ≡ first_of (dir_refusal (map.get paths (whole_path (above ++ take (suc n) names)))) (walk_refusal_from paths (above ++ take (suc n) names) (drop (suc n) names))
  step above [] n h = absurd (omega arith)
  step above (name ∷ []) n h = absurd (omega arith)
  step above (name ∷ next ∷ names) zero h = ap (λ l. walk_refusal_from paths l (name ∷ next ∷ names)) (append-nil above)
  step above (name ∷ next ∷ names) (suc n) h =
      let shifted : (xs : List (List ℕ)) → (above ++ name ∷ []) ++ xs ≡ above ++ name ∷ xs = λ xs. append_assoc above (name ∷ []) xs in
      ap (λ l. walk_refusal_from paths l (drop n (next ∷ names))) (sym (shifted (take n (next ∷ names))))
      ∙ step (above ++ name ∷ []) (next ∷ names) n (omega arith)
      ∙ ap (λ l. first_of (dir_refusal (map.get paths (whole_path l))) (walk_refusal_from paths l (drop (suc n) (next ∷ names)))) (shifted (take (suc n) (next ∷ names)))

  -- the directory that ends with the next component, and then the walk below it
  pub walk_on : (names : List (List ℕ)) (n : ℕ) → n < length names - 1
      → walk_refusal_from paths (take n names) (drop n names)
      ≡ first_of (dir_refusal (map.get paths (whole_path (take (n + 1) names)))) (walk_refusal_from paths (take (n + 1) names) (drop (n + 1) names))
  walk_on names n h =
      step [] names n (omega arith)
      ∙ ap (λ k. first_of (dir_refusal (map.get paths (whole_path (take k names)))) (walk_refusal_from paths (take k names) (drop k names))) (sym (add-one n))

  alone : (above names : List (List ℕ)) → length names ≤ 1 → walk_refusal_from paths above names ≡ None
  alone above [] h = refl
  alone above (name ∷ []) h = refl
  alone above (name ∷ next ∷ names) h = absurd (omega arith)

  -- the last component is left to the request
  pub walk_end : (names : List (List ℕ)) (n : ℕ) → length names ≤ n + 1 → walk_refusal_from paths (take n names) (drop n names) ≡ None
  walk_end names n h = alone (take n names) (drop n names) (omega (arith, length-drop n names))

-- A walk through a table, name by name.
use Rattle.std.proofs.Common.{◌≡◌, ℕ, ◌+◌, List, [], ◌∷◌, ◌++◌, take, Option, Some, None, ap, refl, ◌∙◌, add-one}
use Rattle.std.proofs.Math.Seq.{take-suc}
use Rattle.std.proofs.lemmas.Option.{get_or_from_slice_get, slice_get_within}
use Rattle.std.specs.List.{slice_get}
use Rattle.ufs_dir_tree.specs.DirTable.{DirTable, step, walk_from, found_at}
use Rattle.ufs_dir_tree.specs.declared.found.Found.{Found}
use Rattle.ufs_dir_tree.specs.declared.found.Found.TheVariants.{Dir}

pub take_next : (names : List (List ℕ)) (i : ℕ) (name : List ℕ) → slice_get names i ≡ Some name → take (i + 1) names ≡ take i names ++ name ∷ []
take_next names i name e =
    ap (λ k. take k names) (add-one i) ∙ take-suc names i name (slice_get_within names i name e)
    ∙ ap (λ x. take i names ++ x ∷ []) (get_or_from_slice_get names i name name e)

module _ (t : DirTable) where
  pub walk-append : (at : Option Found) (xs ys : List (List ℕ)) → walk_from t at (xs ++ ys) ≡ walk_from t (walk_from t at xs) ys
  walk-append at [] ys = refl
  walk-append at (x ∷ xs) ys = walk-append (step t at x) xs ys

  -- from nothing a walk meets nothing
  pub walk_none : (names : List (List ℕ)) → walk_from t None names ≡ None
  walk_none [] = refl
  walk_none (name ∷ names) = walk_none names

  -- where nothing stands, nothing stands below
  pub none_below : (xs ys : List (List ℕ)) → found_at t xs ≡ None → found_at t (xs ++ ys) ≡ None
  none_below xs ys e = walk-append (Some (Dir 1)) xs ys ∙ ap (λ at. walk_from t at ys) e ∙ walk_none ys

  pub walk_on : (names : List (List ℕ)) (i : ℕ) (name : List ℕ) → slice_get names i ≡ Some name → found_at t (take (i + 1) names) ≡ step t (found_at t (take i names)) name
  walk_on names i name e = ap (found_at t) (take_next names i name e) ∙ walk-append (Some (Dir 1)) (take i names) (name ∷ [])

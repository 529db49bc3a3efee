-- How a path is placed, by its last slash.
use Rattle.std.proofs.Common.{◌≡◌, ◌≢◌, ◌⊎◌, inl, inr, ℕ, ◌+◌, ◌-◌, ◌≤◌, List, [], ◌∷◌, ◌++◌, Bool, true, false, not, ◌&&◌, eqb, length, take, drop, ap, sym, subst, refl, ◌∙◌, arith, length-take, length-drop}
use Rattle.std.proofs.lemmas.List.{take_all}
use Rattle.std.specs.Prelude.{IsTrue, ◌↔◌}
use Rattle.std.proofs.Math.Seq.{drop-append_seam}
use Rattle.std.specs.FinMap as map
use Rattle.ufs_model.specs.PosixTree.{root}
use Rattle.ufs_model.specs.Start.{PathNodes, is_path_dir}
use Rattle.ufs_model.proofs.Facts.Pieces.{is_free}
use Rattle.ufs_tree.proofs.PathLemmas.{one_last_slash}
use Rattle.ufs_image_paths.specs.Placed.{IsBelowDir, IsLastSlash, IsPathName, IsPlaced, dir_above}

module _ (nodes : PathNodes) (path : List ℕ) where
  module _ (at : ℕ) (last : IsLastSlash path at) where
    -- the text behind the last slash, with it
    pub text_is : drop at path ≡ 47 ∷ drop (at + 1) path
    text_is =
        let all : length (take at path) ≡ at = omega (arith, length-take at path, last.within) in
        ap (drop at) last.divided ∙ ap (λ n. drop n (take at path ++ 47 ∷ drop (at + 1) path)) (sym all) ∙ drop-append_seam (take at path) (47 ∷ drop (at + 1) path)

    pub text_all : take (length path - at) (drop at path) ≡ 47 ∷ drop (at + 1) path
    text_all = take_all (length path - at) (drop at path) (omega (arith, length-drop at path)) ∙ text_is

    pub record IsBelow : Type 0 where
      pub other : take at path ≢ root
      pub named : IsPathName (drop (at + 1) path)
      pub dir : is_path_dir (map.get nodes (dir_above (take at path))) ≡ true

    pub below_from : IsBelow → IsBelowDir nodes path
    below_from is = (take at path, drop (at + 1) path, last.divided, is.other, is.named, is.dir)

    pub below_parts : IsBelowDir nodes path → IsBelow
    below_parts (front, name, is, other, named, dir) =
        let same = one_last_slash (take at path) (drop (at + 1) path) front name last.free named.plain.free (sym last.divided ∙ is) in
        record {
          other = λ e. other (sym same.0 ∙ e);
          named = subst IsPathName (sym same.1) named;
          dir = ap (λ (l : List ℕ). is_path_dir (map.get nodes (dir_above l))) same.0 ∙ dir;
        }

  -- what isn't the root is placed below a directory
  pub placed_below : path ≢ root → IsPlaced nodes path → IsBelowDir nodes path
  placed_below other (inl is) = absurd (other is)
  placed_below other (inr below) = below

  slash_there : (front name : List ℕ) → is_free (front ++ 47 ∷ name) ≡ false
  slash_there [] name = refl
  slash_there (b ∷ front) name = ap (λ t. not (eqb b 47) && t) (slash_there front name) ∙ none (not (eqb b 47))
    where
      none : (t : Bool) → (t && false) ≡ false
      none true = refl
      none false = refl

  -- without a slash it is below none
  pub no_slash : is_free path ≡ true → IsBelowDir nodes path → ⊥
  no_slash free below = let no : false ≡ true = sym (slash_there below.0 below.1) ∙ ap is_free (sym below.2) ∙ free in cc

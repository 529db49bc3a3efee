-- A walk through the directories and one through the paths that they stand for meet the same.
use Rattle.std.proofs.Common.{◌≡◌, ℕ, List, [], ◌∷◌, ◌++◌, None, ap, refl, sym, subst, ◌∙◌, append_assoc}
use Rattle.std.specs.FinMap as map
use Rattle.ufs_base.specs.Choices.{first_of}
use Rattle.ufs_model.specs.Paths.{components, text_refusal, whole_path, whole_of}
use Rattle.ufs_model.specs.PosixTree.{Paths}
use Rattle.ufs_model.specs.Walk.{dir_refusal, walk_refusal, walk_refusal_from}
use Rattle.ufs_name_tree.specs.Nodes.{Nodes, refusal_by}
use Rattle.ufs_names.specs.Stands.{Stands}
use Rattle.ufs_names.proofs.NameLists.{AreNames, names_of, names_front}

module _ (at : Nodes) (paths : Paths) (stands : Stands at paths) where
  -- what stands at the names
  pub met : (names : List (List ℕ)) → AreNames names → map.get paths (whole_path names) ≡ at names
  met names is = stands names is.plain is.allowed

  -- what stands at a path
  pub met_at : (path : List ℕ) → text_refusal path ≡ None → map.get paths (whole_of path) ≡ at (components path)
  met_at path e = met (components path) (names_of path e)

  -- the walk is refused alike
  pub refused_alike : (above names : List (List ℕ)) → AreNames (above ++ names) → refusal_by at above names ≡ walk_refusal_from paths above names
  refused_alike above [] is = refl
  refused_alike above (name ∷ []) is = refl
  refused_alike above (name ∷ next ∷ names) is =
      let is' : AreNames ((above ++ name ∷ []) ++ next ∷ names) = subst AreNames (sym (append_assoc above (name ∷ []) (next ∷ names))) is in
      ap (λ o. first_of (dir_refusal o) (refusal_by at (above ++ name ∷ []) (next ∷ names))) (sym (met (above ++ name ∷ []) (names_front (above ++ name ∷ []) (next ∷ names) is')))
      ∙ ap (first_of (dir_refusal (map.get paths (whole_path (above ++ name ∷ []))))) (refused_alike (above ++ name ∷ []) (next ∷ names) is')

  pub path_refused_alike : (path : List ℕ) → text_refusal path ≡ None → refusal_by at [] (components path) ≡ walk_refusal paths path
  path_refused_alike path e = refused_alike [] (components path) (names_of path e)

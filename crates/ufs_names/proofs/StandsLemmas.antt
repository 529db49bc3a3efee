-- The directories stand for the paths, as paths come, go and get new names.
use Rattle.std.proofs.Common.{◌≡◌, ℕ, ◌⊎◌, inl, inr, List, [], ◌∷◌, ◌++◌, Option, Some, None, ap, is_some, refl, sym, subst, ◌∙◌}
use Rattle.std.proofs.lemmas.List.{append-nil, append_cancel_left}
use Rattle.std.specs.FinMap as map
use Rattle.ufs_model.specs.Paths.{components, whole_path}
use Rattle.ufs_model.specs.PosixTree.{Paths}
use Rattle.ufs_model.specs.Directories.{renamed, renamed_path}
use Rattle.ufs_model.specs.declared.data.Node.{Node}
use Rattle.ufs_model.proofs.Facts.Orders.{path_total, path_same}
use Rattle.ufs_model.proofs.Facts.Lookups.{one_or_apart, inserted_here, inserted_else, removed_here, removed_else}
use Rattle.ufs_model.proofs.Facts.Pieces.{ArePlain, Moves, Stays, components_of, components_plain, plain_append, plain_back, same_names, front_of, front_append}
use Rattle.ufs_model.proofs.Facts.Renames.{MayRename, case_of, no_clash, plain_rest, was, is_now}
use Rattle.ufs_name_tree.specs.Nodes.{Nodes, SetsNode, MovesNodes}
use Rattle.ufs_names.specs.Stands.{Stands}
use Rattle.ufs_names.proofs.NameLists.{AreNames, names_append, names_back}
use Rattle.ufs_names.proofs.WalkLinks.{met}

-- ---- one path comes or goes

module _ (nodes nodes' : Nodes) (paths : Paths) (was_so : Stands nodes paths) (names : List (List ℕ)) (are : AreNames names) where
  -- something stands at the names now
  pub stands_put : (w : Node) → SetsNode nodes nodes' names (Some w) → Stands nodes' (map.insert paths (whole_path names) w)
  stands_put w sets other plain allowed = by (one_or_apart path_total path_same (whole_path other) (whole_path names))
    where
      by : (whole_path other ≡ whole_path names) ⊎ (whole_path other ≡ whole_path names → ⊥) → map.get (map.insert paths (whole_path names) w) (whole_path other) ≡ nodes' other
      by (inl e) =
          ap (map.get (map.insert paths (whole_path names) w)) e ∙ inserted_here path_total path_same paths (whole_path names) w
          ∙ sym (ap nodes' (same_names other names plain are.plain e) ∙ sets.this)
      by (inr not) =
          inserted_else path_total path_same paths (whole_path names) w (whole_path other) not ∙ was_so other plain allowed
          ∙ sym (sets.others other (λ e. not (ap whole_path e)))

  -- nothing does
  pub stands_gone : SetsNode nodes nodes' names None → Stands nodes' (map.remove paths (whole_path names))
  stands_gone sets other plain allowed = by (one_or_apart path_total path_same (whole_path other) (whole_path names))
    where
      by : (whole_path other ≡ whole_path names) ⊎ (whole_path other ≡ whole_path names → ⊥) → map.get (map.remove paths (whole_path names)) (whole_path other) ≡ nodes' other
      by (inl e) =
          ap (map.get (map.remove paths (whole_path names))) e ∙ removed_here path_total path_same paths (whole_path names)
          ∙ sym (ap nodes' (same_names other names plain are.plain e) ∙ sets.this)
      by (inr not) =
          removed_else path_total path_same paths (whole_path names) (whole_path other) not ∙ was_so other plain allowed
          ∙ sym (sets.others other (λ e. not (ap whole_path e)))

-- ---- a new name

-- the names go on from these, or don't
begin_or_not : (front names : List (List ℕ)) → ((rest : List (List ℕ)) × (names ≡ front ++ rest)) ⊎ ((rest : List (List ℕ)) → names ≡ front ++ rest → ⊥)
begin_or_not [] names = inl (names, refl)
begin_or_not (x ∷ xs) [] = inr (λ rest e. cc)
begin_or_not (x ∷ xs) (y ∷ ys) = by (one_or_apart path_total path_same y x) (begin_or_not xs ys)
  where
    by : (y ≡ x) ⊎ (y ≡ x → ⊥) → ((rest : List (List ℕ)) × (ys ≡ xs ++ rest)) ⊎ ((rest : List (List ℕ)) → ys ≡ xs ++ rest → ⊥)
        → ((rest : List (List ℕ)) × (y ∷ ys ≡ (x ∷ xs) ++ rest)) ⊎ ((rest : List (List ℕ)) → y ∷ ys ≡ (x ∷ xs) ++ rest → ⊥)
    by (inl e) (inl more) = let tail = more.1 in inl (more.0, cc)
    by (inl e) (inr never) = inr (λ rest h. let tail : ys ≡ xs ++ rest = cc in never rest tail)
    by (inr not) more = inr (λ rest h. let head : y ≡ x = cc in not head)

-- what stands at one place stands at the other, and the other way round
same_option : {A : Type 0} (a b : Option A) → ((x : A) → a ≡ Some x → b ≡ Some x) → ((x : A) → b ≡ Some x → a ≡ Some x) → a ≡ b
same_option None None to back = refl
same_option None (Some y) to back = back y refl
same_option (Some x) b to back = sym (to x refl)

-- the new name isn't at or below the old one
pub not_new : (paths : Paths) (f : List ℕ) (fs : List (List ℕ)) (g : List ℕ) (gs : List (List ℕ)) → MayRename paths f fs g gs → (rest : List (List ℕ)) → (f ∷ fs) ++ rest ≡ g ∷ gs → ⊥
not_new paths f fs g gs may [] e = may.apart (ap whole_path (sym (append-nil (f ∷ fs)) ∙ e))
not_new paths f fs g gs may (y ∷ ys) e = may.outside (front_of (y ∷ ys)) (ap front_of (sym e) ∙ front_append (f ∷ fs) y ys)

module _ (nodes nodes' : Nodes) (paths : Paths) (was_so : Stands nodes paths) (f : List ℕ) (fs : List (List ℕ)) (g : List ℕ) (gs : List (List ℕ)) (may : MayRename paths f fs g gs)
    (olds : AreNames (f ∷ fs)) (moves : MovesNodes nodes nodes' (f ∷ fs) (g ∷ gs)) where
  abbrev now : Paths
  now = renamed paths (whole_path (f ∷ fs)) (whole_path (g ∷ gs))

  -- the path that a path that stands has now
  abbrev new_path : List ℕ → List ℕ
  new_path path = renamed_path (whole_path (f ∷ fs)) (whole_path (g ∷ gs)) path

  stood : (path : List ℕ) (n : Node) → map.get paths path ≡ Some n → nodes (components path) ≡ Some n
  stood path n there =
      let whole = may.space.whole path (ap is_some there) in
      sym (met nodes paths was_so (components path) (record { plain = components_plain path; allowed = whole.allowed })) ∙ ap (map.get paths) whole.spelled ∙ there

  module _ (other : List (List ℕ)) (are : AreNames other) where
    names_are : components (whole_path other) ≡ other
    names_are = components_of other are.plain

    -- what stands now
    from_now : (n : Node) → map.get now (whole_path other) ≡ Some n → nodes' other ≡ Some n
    from_now n there = by (was paths f fs g gs may (whole_path other) n there)
      where
        moved : (old : List ℕ) → map.get paths old ≡ Some n → whole_path other ≡ new_path old → (rest : List (List ℕ)) → Moves f fs g gs old rest → nodes' other ≡ Some n
        moved old at is rest a =
            let plain = plain_append (g ∷ gs) rest may.new_plain (plain_rest paths f fs g gs may old rest a.0) in
            ap nodes' (same_names other ((g ∷ gs) ++ rest) are.plain plain (is ∙ a.1)) ∙ moves.moved rest ∙ ap nodes (sym a.0) ∙ stood old n at

        stayed : (old : List ℕ) → map.get paths old ≡ Some n → (old ≡ whole_path (g ∷ gs) → ⊥) → whole_path other ≡ new_path old → Stays f fs g gs old → nodes' other ≡ Some n
        stayed old at not is a =
            let names : components old ≡ other = ap components (sym (is ∙ a.1)) ∙ names_are in
            moves.others other (λ rest e. a.0 rest (names ∙ e))
            (λ rest e. no_clash paths f fs g gs may old rest (plain_back (g ∷ gs) rest (subst ArePlain e are.plain)) (ap is_some at) not (sym (is ∙ a.1) ∙ ap whole_path e))
            ∙ ap nodes (sym names) ∙ stood old n at

        by : (old : List ℕ) × (map.get paths old ≡ Some n) × (old ≡ whole_path (g ∷ gs) → ⊥) × (whole_path other ≡ new_path old) → nodes' other ≡ Some n
        by old = by_case (case_of paths f fs g gs may old.0 (ap is_some old.1))
          where
            by_case : ((rest : List (List ℕ)) × Moves f fs g gs old.0 rest) ⊎ Stays f fs g gs old.0 → nodes' other ≡ Some n
            by_case (inl a) = moved old.0 old.1 old.3 a.0 a.1
            by_case (inr a) = stayed old.0 old.1 old.2 old.3 a

    -- what a walk meets
    to_now : (n : Node) → nodes' other ≡ Some n → map.get now (whole_path other) ≡ Some n
    to_now n there = by (begin_or_not (g ∷ gs) other) (begin_or_not (f ∷ fs) other)
      where
        moved : (rest : List (List ℕ)) → other ≡ (g ∷ gs) ++ rest → map.get now (whole_path other) ≡ Some n
        moved rest e = ap (map.get now) (sym (new (case_of paths f fs g gs may from (ap is_some at)))) ∙ is_now paths f fs g gs may from n at (λ same. not_new paths f fs g gs may rest (same_names ((f ∷ fs) ++ rest) (g ∷ gs) names.plain may.new_plain same))
          where
            from : List ℕ
            from = whole_path ((f ∷ fs) ++ rest)

            names : AreNames ((f ∷ fs) ++ rest)
            names = names_append (f ∷ fs) rest olds (names_back (g ∷ gs) rest (subst AreNames e are))

            at : map.get paths (whole_path ((f ∷ fs) ++ rest)) ≡ Some n
            at = met nodes paths was_so ((f ∷ fs) ++ rest) names ∙ sym (moves.moved rest) ∙ sym (ap nodes' e) ∙ there

            new : ((names : List (List ℕ)) × Moves f fs g gs (whole_path ((f ∷ fs) ++ rest)) names) ⊎ Stays f fs g gs (whole_path ((f ∷ fs) ++ rest)) → new_path (whole_path ((f ∷ fs) ++ rest)) ≡ whole_path other
            new (inl a) =
                let same = append_cancel_left (f ∷ fs) a.0 rest (sym a.1.0 ∙ components_of ((f ∷ fs) ++ rest) names.plain) in
                a.1.1 ∙ ap (λ rest. whole_path ((g ∷ gs) ++ rest)) same ∙ ap whole_path (sym e)
            new (inr a) = absurd (a.0 rest (components_of ((f ∷ fs) ++ rest) names.plain))

        stayed : ((rest : List (List ℕ)) → other ≡ (g ∷ gs) ++ rest → ⊥) → ((rest : List (List ℕ)) → other ≡ (f ∷ fs) ++ rest → ⊥) → map.get now (whole_path other) ≡ Some n
        stayed to from = ap (map.get now) (sym (same (case_of paths f fs g gs may (whole_path other) (ap is_some at)))) ∙ is_now paths f fs g gs may (whole_path other) n at not
          where
            at : map.get paths (whole_path other) ≡ Some n
            at = met nodes paths was_so other are ∙ sym (moves.others other from to) ∙ there

            not : whole_path other ≡ whole_path (g ∷ gs) → ⊥
            not e = to [] (same_names other (g ∷ gs) are.plain may.new_plain e ∙ sym (append-nil (g ∷ gs)))

            same : ((names : List (List ℕ)) × Moves f fs g gs (whole_path other) names) ⊎ Stays f fs g gs (whole_path other) → new_path (whole_path other) ≡ whole_path other
            same (inl a) = absurd (from a.0 (sym names_are ∙ a.1.0))
            same (inr a) = a.1

        by : ((rest : List (List ℕ)) × (other ≡ (g ∷ gs) ++ rest)) ⊎ ((rest : List (List ℕ)) → other ≡ (g ∷ gs) ++ rest → ⊥)
            → ((rest : List (List ℕ)) × (other ≡ (f ∷ fs) ++ rest)) ⊎ ((rest : List (List ℕ)) → other ≡ (f ∷ fs) ++ rest → ⊥) → map.get now (whole_path other) ≡ Some n
        by (inl a) from = moved a.0 a.1
        by (inr to) (inl b) = let none = ap nodes' b.1 ∙ moves.gone b.0 in let some : Some n ≡ None = sym there ∙ none in cc
        by (inr to) (inr from) = stayed to from

  -- what stood at one name stands at another
  pub stands_renamed : Stands nodes' (renamed paths (whole_path (f ∷ fs)) (whole_path (g ∷ gs)))
  stands_renamed other plain allowed =
      let are : AreNames other = record { plain = plain; allowed = allowed } in
      same_option _ _ (from_now other are) (to_now other are)

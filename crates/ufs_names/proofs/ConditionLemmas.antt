-- A request that isn't refused meets the conditions of the directories' calls.
use Rattle.std.proofs.Common.{◌≡◌, ◌≢◌, ℕ, ◌-◌, List, [], ◌∷◌, Bool, true, false, not, length, take, drop, Option, Some, None, is_some, ap, refl, sym, subst, ◌∙◌}
use Rattle.std.proofs.lemmas.List.{take-append-drop}
use Rattle.std.specs.Prelude.{IsSome}
use Rattle.std.specs.Option.{option_map}
use Rattle.std.specs.FinMap as map
use Rattle.ufs_model.specs.Paths.{components, whole_path, whole_of, has_component}
use Rattle.ufs_model.specs.PosixTree.{PosixTree, has_dir}
use Rattle.ufs_model.specs.Walk as walk
use Rattle.ufs_model.specs.Refusals.{refusal}
use Rattle.ufs_model.specs.declared.data.Node.{Node}
use Rattle.ufs_model.specs.declared.data.Node.TheVariants.{Dir, File}
use Rattle.ufs_model.specs.declared.data.Op.TheVariants as op
use Rattle.ufs_model.proofs.Facts.Walks.{is_dir-some, dir_of_path}
use Rattle.ufs_dir_tree.specs.DirTable.{DirTable, found_at}
use Rattle.ufs_name_tree.specs.NameTable.{NameTable, node_at, node_of}
use Rattle.ufs_dir_tree.specs.DirCalls.{names_above, MayGo, MayMove}
use Rattle.ufs_names.specs.NamesPart.{NamesPart, IsNamesPart}
use Rattle.ufs_dir_tree.specs.declared.found.Found.{Found}
use Rattle.ufs_dir_tree.specs.declared.found.Found.TheVariants as found
use Rattle.ufs_names.proofs.NameLists.{AreNames, names_of, names_front}
use Rattle.ufs_names.proofs.WalkLinks.{met, met_at}
use Rattle.ufs_names.proofs.StandsLemmas.{not_new}
use Rattle.ufs_model.proofs.NewNameLemmas.{IsRenamed, rename_allowed, may_rename}
use Rattle.ufs_names.proofs.AllowedLemmas.{bytes_differ, IsReached, mkdir_allowed, rmdir_allowed, unlink_allowed, open_allowed, old_names}

-- Something may be put at the names.
pub record IsFree (d : DirTable) (names : List (List ℕ)) : Type 0 where
  pub below : names ≢ []
  pub parent : (i : ℕ) × (found_at d (names_above names) ≡ Some (found.Dir i))
  pub absent : found_at d names ≡ None

-- Something stands at the names, which isn't the root.
pub record IsTaken (d : DirTable) (names : List (List ℕ)) : Type 0 where
  pub below : names ≢ []
  pub there : IsSome (found_at d names)

-- nothing is met where no node stands, and something where one does
pub none_found : (t : NameTable) (o : Option Found) → option_map (node_of t) o ≡ None → o ≡ None
none_found t None e = refl
none_found t (Some x) e = cc

pub some_found : (t : NameTable) (o : Option Found) (w : Node) → option_map (node_of t) o ≡ Some w → IsSome o
some_found t None w e = cc
some_found t (Some x) w e = refl

-- a directory is met where one stands
pub dir_found : (t : NameTable) (o : Option Found) → option_map (node_of t) o ≡ Some Dir → (i : ℕ) × (o ≡ Some (found.Dir i))
dir_found t None e = cc
dir_found t (Some (found.Dir i)) e = (i, refl)
dir_found t (Some (found.File i)) e = cc

some_names : (names : List (List ℕ)) → not (has_component names) ≡ false → names ≢ []
some_names [] e = λ _. cc
some_names (name ∷ names) e = λ h. cc

-- the names above
pub names_above_are : (names : List (List ℕ)) → AreNames names → AreNames (names_above names)
names_above_are names are =
    names_front (take (length names - 1) names) (drop (length names - 1) names) (subst AreNames (sym (take-append-drop (length names - 1) names)) are)

module _ (n : NamesPart) (t : PosixTree) (part : IsNamesPart n t) where
  -- the root is a directory
  not_root : (path : List ℕ) → (walk.node_at t.paths path ≡ Some Dir → ⊥) → components path ≢ []
  not_root path other e = other (ap (λ names. map.get t.paths (whole_path names)) e ∙ is_dir-some _ part.tree.namespace.root_is_dir)

  dir_above : (names : List (List ℕ)) → AreNames names → has_dir t.paths (whole_path (names_above names)) ≡ true → node_at n.tree (names_above names) ≡ Some Dir
  dir_above names are is = sym (met (node_at n.tree) t.paths part.paths (names_above names) (names_above_are names are)) ∙ is_dir-some _ is

  free_at : (path : List ℕ) → IsReached t.paths path → walk.node_at t.paths path ≡ None → IsFree n.tree.dirs (components path)
  free_at path reached none = record {
    below = not_root path (λ e. let no : Some Dir ≡ None = sym e ∙ none in cc);
    parent = dir_found n.tree _ (dir_above (components path) (names_of path reached.text) (dir_of_path t.paths path part.tree.namespace reached.walk));
    absent = none_found n.tree _ (sym (met_at (node_at n.tree) t.paths part.paths path reached.text) ∙ none);
  }

  taken_at : (path : List ℕ) → IsReached t.paths path → components path ≢ [] → (w : Node) → walk.node_at t.paths path ≡ Some w → IsTaken n.tree.dirs (components path)
  taken_at path reached below w at = record {
    below = below;
    there = some_found n.tree _ w (sym (met_at (node_at n.tree) t.paths part.paths path reached.text) ∙ at);
  }

  module _ (client : ℕ) where
    pub mkdir_free : (path : List ℕ) → refusal t client (op.Mkdir path) ≡ None → IsFree n.tree.dirs (components path)
    mkdir_free path e = let may = mkdir_allowed t client path e in free_at path may.0 may.1

    -- an `open` that makes a file
    pub open_free : (path : List ℕ) (read write creat excl trunc append : Bool) → refusal t client (op.OpenFile path read write creat excl trunc append) ≡ None → node_at n.tree (components path) ≡ None
        → IsFree n.tree.dirs (components path)
    open_free path read write creat excl trunc append e none =
        let may = open_allowed t client path read write creat excl trunc append e in
        free_at path may.0 (met_at (node_at n.tree) t.paths part.paths path may.0.text ∙ none)

    pub rmdir_taken : (path : List ℕ) → refusal t client (op.Rmdir path) ≡ None → IsTaken n.tree.dirs (components path)
    rmdir_taken path e = let may = rmdir_allowed t client path e in taken_at path may.0 (some_names (components path) may.1) Dir may.2

    pub unlink_taken : (path : List ℕ) → refusal t client (op.Unlink path) ≡ None → IsTaken n.tree.dirs (components path)
    unlink_taken path e =
        let may = unlink_allowed t client path e in
        taken_at path may.0 (not_root path (λ is. let no : Some Dir ≡ Some (File may.1.0) = sym is ∙ may.1.1 in cc)) (File may.1.0) may.1.1

    may_move_names : (from to : List (List ℕ)) → IsRenamed t.paths from to → (whole_path from ≡ whole_path to → ⊥) → MayGo n.tree.dirs to → MayMove n.tree.dirs from to
    may_move_names [] to is other goes = let some = is.old_some in cc
    may_move_names (f ∷ fs) [] is other goes = let some = is.new_some in cc
    may_move_names (f ∷ fs) (g ∷ gs) is other goes = record {
      stands = stands;
      from_below = λ e. cc;
      to_below = λ e. cc;
      outside = λ rest e. not_new t.paths f fs g gs (may_rename t.paths part.tree.namespace f fs g gs is (bytes_differ (whole_path (f ∷ fs)) (whole_path (g ∷ gs)) other)) rest (sym e);
      replaced = goes;
    }
      where
        stands : IsSome (found_at n.tree.dirs (f ∷ fs))
        stands = by (map.get t.paths (whole_path (f ∷ fs))) refl is.there
          where
            by : (o : Option Node) → map.get t.paths (whole_path (f ∷ fs)) ≡ o → is_some o ≡ true → IsSome (found_at n.tree.dirs (f ∷ fs))
            by None at there = cc
            by (Some w) at there = some_found n.tree _ w (sym (met (node_at n.tree) t.paths part.paths (f ∷ fs) (old_names t.paths (f ∷ fs) (g ∷ gs) is)) ∙ at)

    -- what is replaced may go, as the caller has looked at it
    pub rename_moves : (from to : List ℕ) → refusal t client (op.Rename from to) ≡ None → (whole_of from ≡ whole_of to → ⊥) → MayGo n.tree.dirs (components to) → MayMove n.tree.dirs (components from) (components to)
    rename_moves from to e other goes = may_move_names (components from) (components to) (rename_allowed t client from to part.tree e) other goes

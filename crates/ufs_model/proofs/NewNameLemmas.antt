-- A `rename` that isn't refused: it leaves a tree a tree, what stood at the old name stands at the new one, and the two
-- names lie apart.
use Rattle.std.proofs.Common.{◌≡◌, ℕ, List, [], ◌∷◌, ◌++◌, Bool, true, false, cond, not, ◌&&◌, ◌||◌, Option, Some, None, is_some, is_none, ap, sym, refl, subst, ◌∙◌, bytes_eq, append_assoc}
use Rattle.std.proofs.lemmas.Bool.{and_from}
use Rattle.std.proofs.lemmas.List.{append-nil}
use Rattle.std.specs.FinMap as map
use Rattle.ufs_base.specs.Choices.{refused_if, first_of}
use Rattle.ufs_model.specs.Paths.{components, whole_path, whole_of, text_refusal, components_refusal, has_component, is_root}
use Rattle.ufs_model.specs.PosixTree.{PosixTree, Paths, IsTree, IsNamespace, stands, has_dir, is_live}
use Rattle.ufs_model.specs.Walk.{walk_refusal, node_at, is_file, file_of}
use Rattle.ufs_model.specs.Directories.{has_entries, is_below, renamed}
use Rattle.ufs_model.specs.Refusals.{refusal, rename_refusal, replace_refusal}
use Rattle.ufs_model.specs.Posix.{served, change, rename_path, forget}
use Rattle.ufs_model.specs.Laws.{RenameReplaces, RenameLeaves, RenamesLieApart}
use Rattle.ufs_model.specs.declared.data.Errno.{Errno}
use Rattle.ufs_model.specs.declared.data.Errno.TheVariants.{Einval, Eisdir, Enotdir, Ebusy, Enoent}
use Rattle.ufs_model.specs.declared.data.Reply.TheVariants.{Done}
use Rattle.ufs_model.specs.declared.data.Op.TheVariants as op
use Rattle.ufs_model.proofs.Facts.Lookups.{from_some}
use Rattle.ufs_model.proofs.Facts.Pieces.{ArePlain, components_plain, plain_append, plain_front, same_bytes, bytes_same, below_names, front_of, last}
use Rattle.ufs_model.proofs.Facts.Walks.{dir_above, entry_above, dir_stands, dir_of_path}
use Rattle.ufs_model.proofs.Facts.Allowed.{first_none, passed, some_there, names_allowed}
use Rattle.ufs_model.proofs.Facts.Live.{keeps_paths, forget_lost}
use Rattle.ufs_model.proofs.Facts.Renames.{MayRename, namespace_now, named_before, named_after, at_new_name, at_old_name, not_below, no_entries}

-- What a `rename` that isn't refused finds, in the names of its two paths.
pub record IsRenamed (paths : Paths) (old new : List (List ℕ)) : Type 0 where
  pub old_plain : ArePlain old
  pub old_allowed : components_refusal old ≡ None
  pub new_plain : ArePlain new
  pub new_allowed : components_refusal new ≡ None
  pub old_some : has_component old ≡ true
  pub new_some : has_component new ≡ true
  pub there : is_some (map.get paths (whole_path old)) ≡ true
  pub parent : has_dir paths (whole_path (front_of new)) ≡ true
  pub no_loop : (has_dir paths (whole_path old) && is_below (whole_path old) (whole_path new)) ≡ false
  pub bare : (not (bytes_eq (whole_path old) (whole_path new)) && (has_dir paths (whole_path new) && has_entries paths (whole_path new))) ≡ false

or_parts : (a b : Bool) → (a || b) ≡ false → (a ≡ false) × (b ≡ false)
or_parts true b e = cc
or_parts false b e = (refl, e)

some_name : (names : List (List ℕ)) → not (has_component names) ≡ false → has_component names ≡ true
some_name [] e = cc
some_name (name ∷ names) e = refl

pub rename_allowed : (t : PosixTree) (client : ℕ) (from to : List ℕ) → IsTree t → refusal t client (op.Rename from to) ≡ None → IsRenamed t.paths (components from) (components to)
rename_allowed t client from to is e =
    let both = first_none (first_of (text_refusal from) (text_refusal to)) (rename_refusal t.paths from to) e in
    let texts = first_none (text_refusal from) (text_refusal to) both.0 in
    let at_root = first_none (refused_if (is_root from || is_root to) Ebusy) _ both.1 in
    let walk = first_none (walk_refusal t.paths from) _ at_root.1 in
    let there = first_none (refused_if (is_none (node_at t.paths from)) Enoent) _ walk.1 in
    let walk' = first_none (walk_refusal t.paths to) (replace_refusal t.paths (whole_of from) (whole_of to)) there.1 in
    let loop = first_none (refused_if (has_dir t.paths (whole_of from) && is_below (whole_of from) (whole_of to)) Einval) _ walk'.1 in
    let dir = first_none (refused_if (is_file (map.get t.paths (whole_of from)) && has_dir t.paths (whole_of to)) Eisdir) _ loop.1 in
    let file = first_none (refused_if (has_dir t.paths (whole_of from) && is_file (map.get t.paths (whole_of to))) Enotdir) _ dir.1 in
    let roots = or_parts (is_root from) (is_root to) (passed _ _ at_root.0) in
    record {
      old_plain = components_plain from;
      old_allowed = names_allowed from texts.0;
      new_plain = components_plain to;
      new_allowed = names_allowed to texts.1;
      old_some = some_name (components from) roots.0;
      new_some = some_name (components to) roots.1;
      there = some_there (node_at t.paths from) (passed _ _ there.0);
      parent = dir_of_path t.paths to is.namespace walk'.0;
      no_loop = passed _ _ loop.0;
      bare = passed _ _ file.1;
    }

refuted : (a b : Bool) → a ≡ true → b ≡ true → (a && b) ≡ false → ⊥
refuted a b p q e = let both = and_from a b p q in cc

module _ (paths : Paths) (s : IsNamespace (stands paths) (has_dir paths)) (f : List ℕ) (fs : List (List ℕ)) (g : List ℕ) (gs : List (List ℕ)) (is : IsRenamed paths (f ∷ fs) (g ∷ gs)) (other : bytes_eq (whole_path (f ∷ fs)) (whole_path (g ∷ gs)) ≡ false) where
  bare_there : (y : List ℕ) (ys : List (List ℕ)) → ArePlain (y ∷ ys) → stands paths (whole_path ((g ∷ gs) ++ y ∷ ys)) ≡ true → ⊥
  bare_there y ys plain there =
      let all = plain_append (g ∷ gs) (y ∷ ys) is.new_plain plain in
      refuted _ _ (ap not other) (and_from _ _ (dir_above paths s (g ∷ gs) y ys all there) (entry_above paths s (g ∷ gs) y ys all there)) is.bare

  outside_old : (names : List (List ℕ)) → front_of (g ∷ gs) ≡ (f ∷ fs) ++ names → ⊥
  outside_old names e = refuted _ _ (dir names e) (below names e) is.no_loop
    where
      end : (y : List ℕ) × (g ∷ gs ≡ front_of (g ∷ gs) ++ y ∷ [])
      end = last g gs

      dir : (names : List (List ℕ)) → front_of (g ∷ gs) ≡ (f ∷ fs) ++ names → has_dir paths (whole_path (f ∷ fs)) ≡ true
      dir [] e = ap (has_dir paths) (ap whole_path (sym (append-nil (f ∷ fs)) ∙ sym e)) ∙ is.parent
      dir (y ∷ ys) e =
          let plain = plain_front (front_of (g ∷ gs)) (end.0 ∷ []) (subst ArePlain end.1 is.new_plain) in
          dir_above paths s (f ∷ fs) y ys (subst ArePlain e plain) (dir_stands paths (whole_path ((f ∷ fs) ++ y ∷ ys)) (ap (has_dir paths) (ap whole_path (sym e)) ∙ is.parent))

      longer : (names : List (List ℕ)) → is_below (whole_path (f ∷ fs)) (whole_path ((f ∷ fs) ++ (names ++ end.0 ∷ []))) ≡ true
      longer [] = below_names f fs end.0 []
      longer (y ∷ ys) = below_names f fs y (ys ++ end.0 ∷ [])

      below : (names : List (List ℕ)) → front_of (g ∷ gs) ≡ (f ∷ fs) ++ names → is_below (whole_path (f ∷ fs)) (whole_path (g ∷ gs)) ≡ true
      below names e =
          ap (λ (new : List (List ℕ)). is_below (whole_path (f ∷ fs)) (whole_path new)) (end.1 ∙ ap (λ names. names ++ end.0 ∷ []) e ∙ append_assoc (f ∷ fs) names (end.0 ∷ []))
          ∙ longer names

  pub may_rename : MayRename paths f fs g gs
  may_rename = record {
    space = s;
    old_plain = is.old_plain;
    new_plain = is.new_plain;
    allowed = is.new_allowed;
    bare = bare_there;
    parent = is.parent;
    outside = outside_old;
    apart = λ e. let same = bytes_same _ _ e in cc;
  }

-- to forget a file leaves the paths
forget_paths : (t : PosixTree) (lost : Option ℕ) → (forget t lost).paths ≡ t.paths
forget_paths t None = refl
forget_paths t (Some g) = by (is_live t.paths t.fds g)
  where
    by : (b : Bool) → (cond {A = PosixTree} b t (record t { bytes = map.remove t.bytes g })).paths ≡ t.paths
    by true = refl
    by false = refl

-- ---- by the names of the two paths

-- the tree with the new name, before a file that stood there is forgotten
abbrev after : PosixTree → List (List ℕ) → List (List ℕ) → PosixTree
after t old new = record t { paths = renamed t.paths (whole_path old) (whole_path new) }

module _ (t : PosixTree) (tree : IsTree t) where
  keeps_names : (old new : List (List ℕ)) → IsRenamed t.paths old new → IsTree (rename_path t (whole_path old) (whole_path new))
  keeps_names [] new is = let some = is.old_some in cc
  keeps_names (f ∷ fs) [] is = let some = is.new_some in cc
  keeps_names (f ∷ fs) (g ∷ gs) is = by (bytes_eq (whole_path (f ∷ fs)) (whole_path (g ∷ gs))) refl
    where
      by : (b : Bool) → bytes_eq (whole_path (f ∷ fs)) (whole_path (g ∷ gs)) ≡ b → IsTree (cond b t (forget (after t (f ∷ fs) (g ∷ gs)) (file_of (map.get t.paths (whole_path (g ∷ gs))))))
      by true e = tree
      by false e =
          let may = may_rename t.paths tree.namespace f fs g gs is e in
          forget_lost (after t (f ∷ fs) (g ∷ gs)) (file_of (map.get t.paths (whole_path (g ∷ gs))))
          (keeps_paths t tree (after t (f ∷ fs) (g ∷ gs)).paths (file_of (map.get t.paths (whole_path (g ∷ gs)))) (namespace_now t.paths f fs g gs may) (named_before t.paths f fs g gs may) (named_after t.paths f fs g gs may))

  names_replace : (old new : List (List ℕ)) → IsRenamed t.paths old new → map.get (rename_path t (whole_path old) (whole_path new)).paths (whole_path new) ≡ map.get t.paths (whole_path old)
  names_replace [] new is = let some = is.old_some in cc
  names_replace (f ∷ fs) [] is = let some = is.new_some in cc
  names_replace (f ∷ fs) (g ∷ gs) is = by (bytes_eq (whole_path (f ∷ fs)) (whole_path (g ∷ gs))) refl
    where
      by : (b : Bool) → bytes_eq (whole_path (f ∷ fs)) (whole_path (g ∷ gs)) ≡ b
          → map.get (cond {A = PosixTree} b t (forget (after t (f ∷ fs) (g ∷ gs)) (file_of (map.get t.paths (whole_path (g ∷ gs)))))).paths (whole_path (g ∷ gs)) ≡ map.get t.paths (whole_path (f ∷ fs))
      by true e = ap (map.get t.paths) (sym (same_bytes _ _ e))
      by false e =
          let may = may_rename t.paths tree.namespace f fs g gs is e in
          let node = from_some (map.get t.paths (whole_path (f ∷ fs))) is.there in
          ap (λ (paths : Paths). map.get paths (whole_path (g ∷ gs))) (forget_paths (after t (f ∷ fs) (g ∷ gs)) (file_of (map.get t.paths (whole_path (g ∷ gs)))))
          ∙ at_new_name t.paths f fs g gs may node.0 node.1 ∙ sym node.1

  names_leave : (old new : List (List ℕ)) → IsRenamed t.paths old new → (whole_path old ≡ whole_path new → ⊥) → map.get (rename_path t (whole_path old) (whole_path new)).paths (whole_path old) ≡ None
  names_leave [] new is other = let some = is.old_some in cc
  names_leave (f ∷ fs) [] is other = let some = is.new_some in cc
  names_leave (f ∷ fs) (g ∷ gs) is other = by (bytes_eq (whole_path (f ∷ fs)) (whole_path (g ∷ gs))) refl
    where
      by : (b : Bool) → bytes_eq (whole_path (f ∷ fs)) (whole_path (g ∷ gs)) ≡ b
          → map.get (cond {A = PosixTree} b t (forget (after t (f ∷ fs) (g ∷ gs)) (file_of (map.get t.paths (whole_path (g ∷ gs)))))).paths (whole_path (f ∷ fs)) ≡ None
      by true e = absurd (other (same_bytes _ _ e))
      by false e =
          let may = may_rename t.paths tree.namespace f fs g gs is e in
          let node = from_some (map.get t.paths (whole_path (f ∷ fs))) is.there in
          ap (λ (paths : Paths). map.get paths (whole_path (f ∷ fs))) (forget_paths (after t (f ∷ fs) (g ∷ gs)) (file_of (map.get t.paths (whole_path (g ∷ gs)))))
          ∙ at_old_name t.paths f fs g gs may node.0 node.1

  names_apart : (old new : List (List ℕ)) → IsRenamed t.paths old new → (whole_path old ≡ whole_path new → ⊥)
      → (is_below (whole_path old) (whole_path new) ≡ false) × (has_entries t.paths (whole_path new) ≡ false)
  names_apart [] new is other = let some = is.old_some in cc
  names_apart (f ∷ fs) [] is other = let some = is.new_some in cc
  names_apart (f ∷ fs) (g ∷ gs) is other = by (bytes_eq (whole_path (f ∷ fs)) (whole_path (g ∷ gs))) refl
    where
      by : (b : Bool) → bytes_eq (whole_path (f ∷ fs)) (whole_path (g ∷ gs)) ≡ b
          → (is_below (whole_path (f ∷ fs)) (whole_path (g ∷ gs)) ≡ false) × (has_entries t.paths (whole_path (g ∷ gs)) ≡ false)
      by true e = absurd (other (same_bytes _ _ e))
      by false e =
          let may = may_rename t.paths tree.namespace f fs g gs is e in
          (not_below t.paths f fs g gs may, no_entries t.paths f fs g gs may)

-- ---- the request

pub keeps_renamed : (t : PosixTree) (client : ℕ) (from to : List ℕ) → IsTree t → refusal t client (op.Rename from to) ≡ None → IsTree (change t client (op.Rename from to))
keeps_renamed t client from to tree e = keeps_names t tree (components from) (components to) (rename_allowed t client from to tree e)

pub replaces : RenameReplaces
replaces t client from to tree = by (refusal t client (op.Rename from to)) refl
  where
    by : (r : Option Errno) → refusal t client (op.Rename from to) ≡ r → (served t client (op.Rename from to) r).1 ≡ Done
        → node_at (served t client (op.Rename from to) r).0.paths to ≡ node_at t.paths from
    by (Some e) h done = cc
    by None h done = names_replace t tree (components from) (components to) (rename_allowed t client from to tree h)

pub leaves : RenameLeaves
leaves t client from to tree = by (refusal t client (op.Rename from to)) refl
  where
    by : (r : Option Errno) → refusal t client (op.Rename from to) ≡ r → (served t client (op.Rename from to) r).1 ≡ Done
        → (whole_of from ≡ whole_of to → ⊥) → node_at (served t client (op.Rename from to) r).0.paths from ≡ None
    by (Some e) h done other = cc
    by None h done other = names_leave t tree (components from) (components to) (rename_allowed t client from to tree h) other

pub lie_apart : RenamesLieApart
lie_apart t client from to tree e other = names_apart t tree (components from) (components to) (rename_allowed t client from to tree e) other

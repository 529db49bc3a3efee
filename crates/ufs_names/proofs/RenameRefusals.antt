-- Why a `rename` is refused, by what is met at its two names.
use Rattle.std.proofs.Common.{◌≡◌, ◌↔◌, ℕ, List, [], Bool, false, not, ◌&&◌, ◌||◌, Option, Some, None, IsTrue, ap, refl, sym, subst, ◌∙◌, bytes_eq}
use Rattle.std.specs.Prelude.{is_none}
use Rattle.std.specs.Option.{option_map}
use Rattle.std.specs.FinMap as map
use Rattle.ufs_model.specs.Directories.{has_entries, is_below}
use Rattle.ufs_base.specs.Choices.{refused_if, first_of}
use Rattle.ufs_model.specs.Paths.{components, text_refusal, whole_path, has_component}
use Rattle.ufs_model.specs.PosixTree.{PosixTree, is_dir}
use Rattle.ufs_model.specs.Walk.{walk_refusal_from, is_file}
use Rattle.ufs_model.specs.Refusals.{rename_refusal, replace_refusal}
use Rattle.ufs_model.specs.declared.data.Errno.{Errno}
use Rattle.ufs_model.specs.declared.data.Errno.TheVariants.{Ebusy, Einval, Eisdir, Enotdir, Enotempty, Enoent}
use Rattle.ufs_model.specs.declared.data.Node.{Node}
use Rattle.ufs_model.specs.declared.data.Node.TheVariants as node
use Rattle.ufs_dir_tree.specs.DirTable.{IsDirTable, slots_at, found_at}
use Rattle.ufs_name_tree.specs.NameTable.{NameTable, node_at, node_of}
use Rattle.ufs_dir_tree.specs.DirCalls.{IsBare}
use Rattle.ufs_name_tree.specs.Nodes.{refusal_by}
use Rattle.ufs_names.specs.NamesPart.{NamesPart, IsNamesPart}
use Rattle.ufs_dir_tree.specs.declared.found.Found.{Found}
use Rattle.ufs_dir_tree.specs.declared.found.Found.TheVariants.{Dir}
use Rattle.ufs_names.proofs.NameLists.{AreNames, names_of}
use Rattle.ufs_names.proofs.WalkLinks.{met}
use Rattle.ufs_names.proofs.ResolveLemmas.{node_resolved, walk_resolved}
use Rattle.ufs_names.proofs.PathRefusals.{root_is, entries_told}

-- by what stands at the two names
abbrev pub replaced : Option Node → Option Node → Bool → Bool → Bool → Option Errno
replaced old new below same entries =
    first_of (refused_if (is_dir old && below) Einval)
    (first_of (refused_if (is_file old && is_dir new) Eisdir)
    (first_of (refused_if (is_dir old && is_file new) Enotdir) (refused_if (not same && (is_dir new && entries)) Enotempty)))

-- entries are asked of a directory alone
replaced_by_entries : (old new : Option Node) (below same a b : Bool) → (new ≡ Some node.Dir → a ≡ b) → replaced old new below same a ≡ replaced old new below same b
replaced_by_entries old None below same a b e = refl
replaced_by_entries old (Some node.Dir) below same a b e = ap (replaced old (Some node.Dir) below same) (e refl)
replaced_by_entries old (Some (node.File f)) below same a b e = refl

module _ (n : NamesPart) (t : PosixTree) (part : IsNamesPart n t) (from to : List (List ℕ)) (are : AreNames from) (are' : AreNames to) where
  pub replaced_is : IsDirTable n.tree.dirs → (old new : Option Found) → old ≡ found_at n.tree.dirs from → new ≡ found_at n.tree.dirs to → (entries : Bool) → (entries ≡ false) ↔ ((i : ℕ) → new ≡ Some (Dir i) → IsBare (slots_at n.tree.dirs i))
      → replaced (option_map (node_of n.tree) old) (option_map (node_of n.tree) new) (is_below (whole_path from) (whole_path to)) (bytes_eq (whole_path from) (whole_path to)) entries ≡ replace_refusal t.paths (whole_path from) (whole_path to)
  replaced_is table old new at at' entries told =
      replaced_by_entries (option_map (node_of n.tree) old) (option_map (node_of n.tree) new) (is_below (whole_path from) (whole_path to)) (bytes_eq (whole_path from) (whole_path to)) entries (has_entries t.paths (whole_path to))
      (entries_told n t part table to are' new at' entries told)
      ∙ ap (λ o. replaced o (option_map (node_of n.tree) new) (is_below (whole_path from) (whole_path to)) (bytes_eq (whole_path from) (whole_path to)) (has_entries t.paths (whole_path to)))
      (ap (option_map (node_of n.tree)) at ∙ sym (met (node_at n.tree) t.paths part.paths from are))
      ∙ ap (λ o. replaced (map.get t.paths (whole_path from)) o (is_below (whole_path from) (whole_path to)) (bytes_eq (whole_path from) (whole_path to)) (has_entries t.paths (whole_path to)))
      (ap (option_map (node_of n.tree)) at' ∙ sym (met (node_at n.tree) t.paths part.paths to are'))

-- ---- the whole order

abbrev by_steps : Bool → Option Errno → Option Node → Option Errno → Option Errno → Option Errno
by_steps root way o way' last = first_of (refused_if root Ebusy) (first_of way (first_of (refused_if (is_none o) Enoent) (first_of way' last)))

module _ (n : NamesPart) (t : PosixTree) (part : IsNamesPart n t) (d : NameTable) (same : d ≡ n.tree) (from to : List (List ℕ)) (old new : List ℕ) (text : text_refusal old ≡ None) (text' : text_refusal new ≡ None)
    (e : from ≡ components old) (e' : to ≡ components new) where
  are : AreNames from
  are = subst AreNames (sym e) (names_of old text)

  are' : AreNames to
  are' = subst AreNames (sym e') (names_of new text')

  abbrev steps : Bool → Option Errno
  steps root = by_steps root (walk_refusal_from t.paths [] from) (map.get t.paths (whole_path from)) (walk_refusal_from t.paths [] to) (replace_refusal t.paths (whole_path from) (whole_path to))

  ordered : rename_refusal t.paths old new ≡ steps (not (has_component from) || not (has_component to))
  ordered = subst (λ (l : List (List ℕ)). rename_refusal t.paths old new ≡ by_steps (not (has_component l) || not (has_component to)) (walk_refusal_from t.paths [] l) (map.get t.paths (whole_path l)) (walk_refusal_from t.paths [] to) (replace_refusal t.paths (whole_path l) (whole_path to))) (sym e)
      (subst (λ (l : List (List ℕ)). rename_refusal t.paths old new ≡ by_steps (not (has_component (components old)) || not (has_component l)) (walk_refusal_from t.paths [] (components old)) (map.get t.paths (whole_path (components old))) (walk_refusal_from t.paths [] l) (replace_refusal t.paths (whole_path (components old)) (whole_path l))) (sym e') refl)

  module _ (a b : Bool) (at_root : IsTrue a ↔ (from ≡ [])) (at_root' : IsTrue b ↔ (to ≡ [])) where
    with_roots : rename_refusal t.paths old new ≡ steps (a || b)
    with_roots = ordered ∙ ap (λ x. steps (x || not (has_component to))) (sym (root_is a from at_root)) ∙ ap (λ x. steps (a || x)) (sym (root_is b to at_root'))

    -- none is the root's
    module _ (no : a ≡ false) (no' : b ≡ false) where
      below_root : rename_refusal t.paths old new ≡ steps false
      below_root = with_roots ∙ ap (λ x. steps (x || b)) no ∙ ap steps no'

      pub refused_from : (err : Errno) → refusal_by (node_at d) [] from ≡ Some err → rename_refusal t.paths old new ≡ Some err
      refused_from err is =
          below_root ∙ ap (λ way. by_steps false way (map.get t.paths (whole_path from)) (walk_refusal_from t.paths [] to) (replace_refusal t.paths (whole_path from) (whole_path to))) (walk_resolved n t part d same from are (Some err) is)

      module _ (passed : refusal_by (node_at d) [] from ≡ None) (o : Option Found) (at : o ≡ found_at d.dirs from) where
        to_node : rename_refusal t.paths old new ≡ by_steps false None (option_map (node_of n.tree) o) (walk_refusal_from t.paths [] to) (replace_refusal t.paths (whole_path from) (whole_path to))
        to_node =
            below_root ∙ ap (λ way. by_steps false way (map.get t.paths (whole_path from)) (walk_refusal_from t.paths [] to) (replace_refusal t.paths (whole_path from) (whole_path to))) (walk_resolved n t part d same from are None passed)
            ∙ ap (λ o. by_steps false None o (walk_refusal_from t.paths [] to) (replace_refusal t.paths (whole_path from) (whole_path to))) (node_resolved n t part d same from are o at)

        pub refused_missing : o ≡ None → rename_refusal t.paths old new ≡ Some Enoent
        refused_missing none = to_node ∙ ap (λ o. by_steps false None (option_map (node_of n.tree) o) (walk_refusal_from t.paths [] to) (replace_refusal t.paths (whole_path from) (whole_path to))) none

        module _ (w : Found) (some : o ≡ Some w) where
          to_walk : (r : Option Errno) → refusal_by (node_at d) [] to ≡ r → rename_refusal t.paths old new ≡ first_of r (replace_refusal t.paths (whole_path from) (whole_path to))
          to_walk r is =
              to_node ∙ ap (λ o. by_steps false None (option_map (node_of n.tree) o) (walk_refusal_from t.paths [] to) (replace_refusal t.paths (whole_path from) (whole_path to))) some
              ∙ ap (λ way. first_of way (replace_refusal t.paths (whole_path from) (whole_path to))) (walk_resolved n t part d same to are' r is)

          pub refused_to : (err : Errno) → refusal_by (node_at d) [] to ≡ Some err → rename_refusal t.paths old new ≡ Some err
          refused_to err is = to_walk (Some err) is

          pub refused_replaced : refusal_by (node_at d) [] to ≡ None → rename_refusal t.paths old new ≡ replace_refusal t.paths (whole_path from) (whole_path to)
          refused_replaced is = to_walk None is

-- The names' part goes on with the tree as paths come, go and get new names.
use Rattle.std.proofs.Common.{◌≡◌, ℕ, List, [], ◌∷◌, Bool, true, false, cond, Option, Some, None, is_some, inl, sym, subst, bytes_eq}
use Rattle.std.specs.FinMap as map
use Rattle.ufs_model.specs.Paths.{components, whole_path, whole_of, text_refusal}
use Rattle.ufs_model.specs.PosixTree.{PosixTree, IsTree}
use Rattle.ufs_model.specs.Walk.{file_of}
use Rattle.ufs_model.specs.Directories.{renamed}
use Rattle.ufs_model.specs.Posix.{posix, served, change, forget, without_path, rename_path}
use Rattle.ufs_model.specs.Refusals.{refusal}
use Rattle.ufs_model.specs.Laws.{KeepsTrees}
use Rattle.ufs_model.specs.declared.data.Errno.{Errno}
use Rattle.ufs_model.specs.declared.data.Op.{Op}
use Rattle.ufs_model.specs.declared.data.Op.TheVariants as op
use Rattle.ufs_model.specs.declared.data.Node.TheVariants.{Dir}
use Rattle.ufs_model.proofs.Facts.Live.{held_has}
use Rattle.ufs_model.proofs.Facts.Pieces.{bytes_same}
use Rattle.ufs_model.proofs.Facts.Renames.{MayRename}
use Rattle.ufs_files.specs.Files.{Files}
use Rattle.ufs_name_tree.specs.NameTable.{node_at}
use Rattle.ufs_name_tree.specs.Nodes.{SetsNode, MovesNodes}
use Rattle.ufs_names.specs.NamesPart.{NamesPart, IsNamesPart}
use Rattle.ufs_names.specs.Steps.{KeepsFiles, LosesName, Removes}
use Rattle.ufs_names.proofs.NameLists.{names_of}
use Rattle.ufs_names.proofs.WalkLinks.{met, met_at}
use Rattle.ufs_names.proofs.StandsLemmas.{stands_put, stands_gone, stands_renamed}
use Rattle.ufs_names.proofs.OnceLemmas.{once_dir, once_gone, once_renamed}
use Rattle.ufs_names.proofs.LinkLemmas.{file_there, named_dir, unnamed_gone, named_left, unnamed_renamed, named_renamed}
use Rattle.ufs_names.proofs.SettleLemmas.{part_paths, part_unnamed}
use Rattle.ufs_model.proofs.NewNameLemmas.{IsRenamed, rename_allowed, may_rename}
use Rattle.ufs_names.proofs.AllowedLemmas.{mkdir_allowed, rmdir_allowed, unlink_allowed, bytes_differ, old_names, new_names}

-- the tree after a request that isn't refused
pub tree_after : KeepsTrees → (t : PosixTree) (client : ℕ) (request : Op) → IsTree t → refusal t client request ≡ None → IsTree (change t client request)
tree_after keeps t client request tree e = subst (λ (r : Option Errno). IsTree (served t client request r).0) e (keeps t client request tree)

-- what goes on with the change goes on with the request
pub goes_on : (n : NamesPart) (t : PosixTree) (client : ℕ) (asked request : Op) → asked ≡ request → refusal t client request ≡ None → IsNamesPart n (change t client request) → IsNamesPart n (posix t client asked).0
goes_on n t client asked request is e part =
    subst (λ (r : Op). IsNamesPart n (posix t client r).0) (sym is) (subst (λ (r : Option Errno). IsNamesPart n (served t client request r).0) (sym e) part)

-- a file that a path names has bytes
pub stood_has : (t : PosixTree) → IsTree t → (whole : List ℕ) (f : ℕ) → file_of (map.get t.paths whole) ≡ Some f → is_some (map.get t.bytes f) ≡ true
stood_has t tree whole f stood = held_has t tree f (inl (whole, file_there (map.get t.paths whole) f stood))

-- what stood at one whole path stands at another, which differs
abbrev with_name : PosixTree → List ℕ → List ℕ → PosixTree
with_name t from to = forget (record t { paths = renamed t.paths from to }) (file_of (map.get t.paths to))

module _ (keeps : KeepsTrees) (n : NamesPart) (t : PosixTree) (client : ℕ) (part : IsNamesPart n t) (new : NamesPart) (hands hands' : Files) where
  -- ---- a directory comes or goes

  pub part_mkdir : (path : List ℕ) → refusal t client (op.Mkdir path) ≡ None → SetsNode (node_at n.tree) (node_at new.tree) (components path) (Some Dir) → KeepsFiles n new hands hands' → IsNamesPart new (change t client (op.Mkdir path))
  part_mkdir path e sets same =
      let may = mkdir_allowed t client path e in
      part_paths n t part new hands hands' (map.insert t.paths (whole_of path) Dir)
      (stands_put (node_at n.tree) (node_at new.tree) t.paths part.paths (components path) (names_of path may.0.text) Dir sets)
      (once_dir t.paths part.once (whole_of path))
      (λ f. named_dir t.paths (whole_of path) f may.1)
      same
      (tree_after keeps t client (op.Mkdir path) part.tree e)

  -- a name goes, and its file where nothing keeps it
  part_without : (path : List ℕ) → text_refusal path ≡ None → IsTree (without_path t (whole_of path)) → Removes n new hands hands' (components path) → IsNamesPart new (without_path t (whole_of path))
  part_without path text tree goes =
      part_unnamed n t part new hands hands' (map.remove t.paths (whole_of path))
      (stands_gone (node_at n.tree) (node_at new.tree) t.paths part.paths (components path) (names_of path text) goes.nodes)
      (once_gone t.paths part.once (whole_of path))
      (file_of (map.get t.paths (whole_of path)))
      (λ f stood. unnamed_gone t.paths (whole_of path) f part.once stood)
      (λ f other. named_left t.paths (whole_of path) f other)
      (λ f stood. stood_has t part.tree (whole_of path) f stood)
      (subst (λ o. LosesName n new hands hands' (file_of o)) (sym (met_at (node_at n.tree) t.paths part.paths path text)) goes.file)
      tree

  pub part_rmdir : (path : List ℕ) → refusal t client (op.Rmdir path) ≡ None → Removes n new hands hands' (components path) → IsNamesPart new (change t client (op.Rmdir path))
  part_rmdir path e goes = part_without path (rmdir_allowed t client path e).0.text (tree_after keeps t client (op.Rmdir path) part.tree e) goes

  -- ---- a file's name goes

  pub part_unlink : (path : List ℕ) → refusal t client (op.Unlink path) ≡ None → Removes n new hands hands' (components path) → IsNamesPart new (change t client (op.Unlink path))
  part_unlink path e goes = part_without path (unlink_allowed t client path e).0.text (tree_after keeps t client (op.Unlink path) part.tree e) goes

  -- ---- a new name

  part_renamed : (from to : List (List ℕ)) → IsRenamed t.paths from to → (whole_path from ≡ whole_path to → ⊥) → IsTree (rename_path t (whole_path from) (whole_path to)) → MovesNodes (node_at n.tree) (node_at new.tree) from to
      → LosesName n new hands hands' (file_of (node_at n.tree to)) → IsNamesPart new (rename_path t (whole_path from) (whole_path to))
  part_renamed [] to is other tree moves loses = let some = is.old_some in cc
  part_renamed (f ∷ fs) [] is other tree moves loses = let some = is.new_some in cc
  part_renamed (f ∷ fs) (g ∷ gs) is other tree moves loses = by (bytes_eq (whole_path (f ∷ fs)) (whole_path (g ∷ gs))) (bytes_differ _ _ other) tree
    where
      may : MayRename t.paths f fs g gs
      may = may_rename t.paths part.tree.namespace f fs g gs is (bytes_differ (whole_path (f ∷ fs)) (whole_path (g ∷ gs)) other)

      done : IsTree (with_name t (whole_path (f ∷ fs)) (whole_path (g ∷ gs))) → IsNamesPart new (with_name t (whole_path (f ∷ fs)) (whole_path (g ∷ gs)))
      done tree =
          part_unnamed n t part new hands hands' (renamed t.paths (whole_path (f ∷ fs)) (whole_path (g ∷ gs)))
          (stands_renamed (node_at n.tree) (node_at new.tree) t.paths part.paths f fs g gs may (old_names t.paths (f ∷ fs) (g ∷ gs) is) moves)
          (once_renamed t.paths part.once f fs g gs may)
          (file_of (map.get t.paths (whole_path (g ∷ gs))))
          (λ h stood. unnamed_renamed t.paths f fs g gs may h part.once stood)
          (λ h other. named_renamed t.paths f fs g gs may h other)
          (λ h stood. stood_has t part.tree (whole_path (g ∷ gs)) h stood)
          (subst (λ o. LosesName n new hands hands' (file_of o)) (sym (met (node_at n.tree) t.paths part.paths (g ∷ gs) (new_names t.paths (f ∷ fs) (g ∷ gs) is))) loses)
          tree

      by : (b : Bool) → b ≡ false → IsTree (cond {A = PosixTree} b t (with_name t (whole_path (f ∷ fs)) (whole_path (g ∷ gs))))
          → IsNamesPart new (cond {A = PosixTree} b t (with_name t (whole_path (f ∷ fs)) (whole_path (g ∷ gs))))
      by true e tree = cc
      by false e tree = done tree

  pub part_rename : (from to : List ℕ) → refusal t client (op.Rename from to) ≡ None → (whole_of from ≡ whole_of to → ⊥) → MovesNodes (node_at n.tree) (node_at new.tree) (components from) (components to)
      → LosesName n new hands hands' (file_of (node_at n.tree (components to))) → IsNamesPart new (change t client (op.Rename from to))
  part_rename from to e other moves loses =
      part_renamed (components from) (components to) (rename_allowed t client from to part.tree e) other (tree_after keeps t client (op.Rename from to) part.tree e) moves loses

-- a new name that is the old one changes nothing
pub part_same_name : (n : NamesPart) (t : PosixTree) (client : ℕ) → IsNamesPart n t → (from to : List ℕ) → whole_of from ≡ whole_of to → IsNamesPart n (change t client (op.Rename from to))
part_same_name n t client part from to same = by (bytes_eq (whole_of from) (whole_of to)) (bytes_same _ _ same)
  where
    by : (b : Bool) → b ≡ true → IsNamesPart n (cond {A = PosixTree} b t (forget (record t { paths = renamed t.paths (whole_of from) (whole_of to) }) (file_of (map.get t.paths (whole_of to)))))
    by true e = part
    by false e = cc

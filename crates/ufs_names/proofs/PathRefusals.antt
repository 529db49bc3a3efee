-- Why a request on one path is refused, by what is met there.
use Rattle.std.proofs.Common.{◌≡◌, ◌↔◌, ℕ, List, [], ◌∷◌, Bool, true, false, not, Option, Some, None, IsTrue, ap, refl, sym, subst, ◌∙◌}
use Rattle.std.specs.Option.{option_map}
use Rattle.ufs_model.specs.Directories.{has_entries}
use Rattle.ufs_base.specs.Choices.{refused_if, first_of}
use Rattle.ufs_model.specs.Paths.{components, text_refusal, whole_path, whole_of, has_component, is_root}
use Rattle.ufs_model.specs.PosixTree.{PosixTree}
use Rattle.ufs_model.specs.Walk as walk
use Rattle.ufs_model.specs.Walk.{walk_refusal}
use Rattle.ufs_model.specs.Descriptors.{Mode, is_mode}
use Rattle.ufs_model.specs.Refusals.{own_refusal, tree_refusal, refusal}
use Rattle.ufs_model.specs.declared.data.Errno.{Errno}
use Rattle.ufs_model.specs.declared.data.Errno.TheVariants.{Einval, Emfile}
use Rattle.ufs_model.specs.declared.data.Node.{Node}
use Rattle.ufs_model.specs.declared.data.Node.TheVariants as node
use Rattle.ufs_model.specs.declared.data.Op.{Op}
use Rattle.ufs_model.specs.declared.data.Op.TheVariants as op
use Rattle.ufs_model.proofs.Facts.Allowed.{first_none}
use Rattle.ufs_model.proofs.Facts.Lookups.{same_some}
use Rattle.ufs_dir_tree.specs.DirTable.{IsDirTable, slots_at, found_at}
use Rattle.ufs_name_tree.specs.NameTable.{NameTable, IsNameTable, node_at, node_of}
use Rattle.ufs_dir_tree.specs.DirCalls.{IsBare}
use Rattle.ufs_name_tree.specs.Nodes.{refusal_by}
use Rattle.ufs_names.specs.NamesPart.{NamesPart, IsNamesPart}
use Rattle.ufs_names.specs.PathCalls.{path_asked, end_refusal}
use Rattle.ufs_dir_tree.specs.declared.found.Found.{Found}
use Rattle.ufs_dir_tree.specs.declared.found.Found.TheVariants.{Dir, File}
use Rattle.ufs_names.proofs.NameLists.{AreNames, names_of}
use Rattle.ufs_names.proofs.WalkLinks.{met_at, path_refused_alike}
use Rattle.ufs_names.proofs.EntryLemmas.{no_entries_if_bare, bare_if_no_entries}

-- the path of which these are the names
pub path_of : (o : Option (List ℕ)) (names : List (List ℕ)) → option_map components o ≡ Some names → (path : List ℕ) × (o ≡ Some path) × (components path ≡ names)
path_of None names e = cc
path_of (Some path) names e = (path, refl, same_some (components path) names e)

-- its text isn't refused
pub text_passed : (t : PosixTree) (client : ℕ) (request : Op) (path : List ℕ) → own_refusal t client request ≡ None → path_asked request ≡ Some path → text_refusal path ≡ None
text_passed t client (op.OpenFile own read write creat excl trunc append) path e is =
    let m : Mode = record { read = read; write = write; creat = creat; excl = excl; trunc = trunc; append = append } in
    let mode = first_none (refused_if (not (is_mode m)) Einval) _ e in
    let free = first_none (refused_if _ Emfile) (text_refusal own) mode.1 in
    ap text_refusal (sym (same_some own path is)) ∙ free.1
text_passed t client (op.Mkdir own) path e is = ap text_refusal (sym (same_some own path is)) ∙ e
text_passed t client (op.Rmdir own) path e is = ap text_refusal (sym (same_some own path is)) ∙ e
text_passed t client (op.Unlink own) path e is = ap text_refusal (sym (same_some own path is)) ∙ e
text_passed t client (op.Stat own) path e is = ap text_refusal (sym (same_some own path is)) ∙ e
text_passed t client (op.List own) path e is = ap text_refusal (sym (same_some own path is)) ∙ e
text_passed t client _ path e is = cc

-- first the walk, then what stands at its end
module _ (t : PosixTree) (client : ℕ) where
  abbrev by_path : Op → List ℕ → Option Errno
  by_path request path = first_of (walk_refusal t.paths path) (end_refusal (is_root path) (walk.node_at t.paths path) (has_entries t.paths (whole_of path)) request)

  refused_by_path : (request : Op) (path : List ℕ) → path_asked request ≡ Some path → tree_refusal t client request ≡ by_path request path
  refused_by_path (op.OpenFile own read write creat excl trunc append) path is = ap (by_path (op.OpenFile own read write creat excl trunc append)) (same_some own path is)
  refused_by_path (op.Mkdir own) path is = ap (by_path (op.Mkdir own)) (same_some own path is)
  refused_by_path (op.Rmdir own) path is = ap (by_path (op.Rmdir own)) (same_some own path is)
  refused_by_path (op.Unlink own) path is = ap (by_path (op.Unlink own)) (same_some own path is)
  refused_by_path (op.Stat own) path is = ap (by_path (op.Stat own)) (same_some own path is)
  refused_by_path (op.List own) path is = ap (by_path (op.List own)) (same_some own path is)
  refused_by_path _ path is = cc

-- entries are asked of a directory alone
end_by_entries : (at_root : Bool) (o : Option Node) (a b : Bool) (request : Op) → (o ≡ Some node.Dir → a ≡ b) → end_refusal at_root o a request ≡ end_refusal at_root o b request
end_by_entries at_root None a b (op.Rmdir path) same = refl
end_by_entries at_root (Some node.Dir) a b (op.Rmdir path) same = ap (λ b. end_refusal at_root (Some node.Dir) b (op.Rmdir path)) (same refl)
end_by_entries at_root (Some (node.File f)) a b (op.Rmdir path) same = refl
end_by_entries at_root o a b _ same = refl

pub root_is : (b : Bool) (names : List (List ℕ)) → IsTrue b ↔ (names ≡ []) → b ≡ not (has_component names)
root_is true [] is = refl
root_is false [] is = let no : IsTrue false = is.1 refl in cc
root_is true (name ∷ names) is = let no : name ∷ names ≡ [] = is.0 refl in cc
root_is false (name ∷ names) is = refl

same_test : (a b : Bool) → (a ≡ false → b ≡ false) → (b ≡ false → a ≡ false) → a ≡ b
same_test true true to back = refl
same_test false false to back = refl
same_test true false to back = back refl
same_test false true to back = sym (to refl)

-- what the directories tell of entries
pub entries_told : (n : NamesPart) (t : PosixTree) → IsNamesPart n t → IsDirTable n.tree.dirs → (names : List (List ℕ)) → AreNames names → (found : Option Found) → found ≡ found_at n.tree.dirs names
    → (b : Bool) → (b ≡ false) ↔ ((i : ℕ) → found ≡ Some (Dir i) → IsBare (slots_at n.tree.dirs i)) → option_map (node_of n.tree) found ≡ Some node.Dir → b ≡ has_entries t.paths (whole_path names)
entries_told n t part table names are None at b is dir = cc
entries_told n t part table names are (Some (File f)) at b is dir = cc
entries_told n t part table names are (Some (Dir i)) at b is dir =
    same_test b (has_entries t.paths (whole_path names))
    (λ e. no_entries_if_bare n.tree t.paths part.tree.namespace table part.paths names are.plain are.allowed i (sym at) (is.0 e i refl))
    (λ e. is.1 (λ j same. subst (λ i. IsBare (slots_at n.tree.dirs i)) (number i j same) (bare_if_no_entries n.tree t.paths part.tree.namespace table part.paths names are.plain are.allowed i (sym at) e)))
  where
    number : (i j : ℕ) → Some (Dir i) ≡ Some (Dir j) → i ≡ j
    number i j same = cc

module _ (n : NamesPart) (t : PosixTree) (part : IsNamesPart n t) (client : ℕ) (request : Op) (names : List (List ℕ)) (own : own_refusal t client request ≡ None)
    (on : option_map components (path_asked request) ≡ Some names) where
  abbrev path : List ℕ
  path = (path_of (path_asked request) names on).0

  text : text_refusal path ≡ None
  text = text_passed t client request path own (path_of (path_asked request) names on).1

  are_names : components path ≡ names
  are_names = (path_of (path_asked request) names on).2

  by_tree : refusal t client request ≡ by_path t client request path
  by_tree = ap (λ (o : Option Errno). first_of o (tree_refusal t client request)) own ∙ refused_by_path t client request path (path_of (path_asked request) names on).1

  walked : (o : Option Errno) → refusal_by (node_at n.tree) [] names ≡ o → walk_refusal t.paths path ≡ o
  walked o e = sym (path_refused_alike (node_at n.tree) t.paths part.paths path text) ∙ ap (refusal_by (node_at n.tree) []) are_names ∙ e

  -- by the walk
  pub refused_by_walk : (e : Errno) → refusal_by (node_at n.tree) [] names ≡ Some e → refusal t client request ≡ Some e
  refused_by_walk e is = by_tree ∙ ap (λ (o : Option Errno). first_of o (end_refusal (is_root path) (walk.node_at t.paths path) (has_entries t.paths (whole_of path)) request)) (walked (Some e) is)

  -- by what stands at its end
  pub refused_by_end : IsDirTable n.tree.dirs → refusal_by (node_at n.tree) [] names ≡ None → (found : Option Found) → found ≡ found_at n.tree.dirs names → (root entries : Bool) → IsTrue root ↔ (names ≡ [])
      → (entries ≡ false) ↔ ((i : ℕ) → found ≡ Some (Dir i) → IsBare (slots_at n.tree.dirs i)) → refusal t client request ≡ end_refusal root (option_map (node_of n.tree) found) entries request
  refused_by_end table passed found met root entries at_root told =
      by_tree ∙ ap (λ (o : Option Errno). first_of o (end_refusal (is_root path) (walk.node_at t.paths path) (has_entries t.paths (whole_of path)) request)) (walked None passed)
      ∙ ap (λ b. end_refusal b (walk.node_at t.paths path) (has_entries t.paths (whole_of path)) request) (ap (λ (l : List (List ℕ)). not (has_component l)) are_names ∙ sym (root_is root names at_root))
      ∙ ap (λ o. end_refusal root o (has_entries t.paths (whole_of path)) request) (met_at (node_at n.tree) t.paths part.paths path text ∙ ap (node_at n.tree) are_names ∙ ap (option_map (node_of n.tree)) (sym met))
      ∙ sym (end_by_entries root (option_map (node_of n.tree) found) entries (has_entries t.paths (whole_of path)) request (λ dir.
      entries_told n t part table names (subst AreNames are_names (names_of path text)) found met entries told dir ∙ ap (λ l. has_entries t.paths (whole_path l)) (sym are_names)))

  -- by what was looked at, of the same names
  pub refused_by_look : (tree : NameTable) → tree ≡ n.tree → IsNameTable tree → refusal_by (node_at tree) [] names ≡ None → (found : Option Found) → found ≡ found_at tree.dirs names → (root entries : Bool) → IsTrue root ↔ (names ≡ [])
      → (entries ≡ false) ↔ ((i : ℕ) → found ≡ Some (Dir i) → IsBare (slots_at n.tree.dirs i)) → (stood : Option Node) → stood ≡ option_map (node_of tree) found → (r : Option Errno) → r ≡ end_refusal root stood entries request
      → refusal t client request ≡ r
  refused_by_look tree same table passed found met root entries at_root told stood stood_is r is =
      refused_by_end (subst (λ (d : NameTable). IsDirTable d.dirs) same table.table) (subst (λ (d : NameTable). refusal_by (node_at d) [] names ≡ None) same passed) found (met ∙ ap (λ (d : NameTable). found_at d.dirs names) same) root entries at_root told
      ∙ ap (λ (o : Option Node). end_refusal root o entries request) (sym (stood_is ∙ ap (λ (d : NameTable). option_map (node_of d) found) same)) ∙ sym is

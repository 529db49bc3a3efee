-- What a path leads to, by the walk through the directories.
use Rattle.std.proofs.Common.{◌≡◌, ℕ, List, [], Option, Some, None, ap, sym, subst, ◌∙◌}
use Rattle.std.specs.Prelude.{is_none}
use Rattle.std.specs.Option.{option_map}
use Rattle.std.specs.FinMap as map
use Rattle.ufs_base.specs.Choices.{first_of, refused_if}
use Rattle.ufs_model.specs.Paths.{IsWhole, components, components_refusal, whole_path}
use Rattle.ufs_model.specs.PosixTree.{PosixTree}
use Rattle.ufs_model.specs.Walk.{walk_refusal_from}
use Rattle.ufs_model.specs.declared.data.Errno.{Errno}
use Rattle.ufs_model.specs.declared.data.Errno.TheVariants.{Enoent}
use Rattle.ufs_model.specs.declared.data.Node.{Node}
use Rattle.ufs_model.proofs.Facts.Pieces.{ArePlain, components_plain}
use Rattle.ufs_dir_tree.specs.DirTable.{found_at}
use Rattle.ufs_name_tree.specs.NameTable.{NameTable, node_at, node_of}
use Rattle.ufs_name_tree.specs.Nodes.{refusal_by}
use Rattle.ufs_names.specs.NamesPart.{NamesPart, IsNamesPart}
use Rattle.ufs_dir_tree.specs.declared.found.Found.{Found}
use Rattle.ufs_names.proofs.NameLists.{AreNames}
use Rattle.ufs_names.proofs.WalkLinks.{met, refused_alike}

-- those of a whole path
pub names_of_whole : (names : List (List ℕ)) → components (whole_path names) ≡ names → IsWhole (whole_path names) → AreNames names
names_of_whole names e is = record {
  plain = subst ArePlain e (components_plain (whole_path names));
  allowed = ap components_refusal (sym e) ∙ is.allowed;
}

module _ (n : NamesPart) (t : PosixTree) (part : IsNamesPart n t) (d : NameTable) (same : d ≡ n.tree) (names : List (List ℕ)) (are : AreNames names) where
  pub node_resolved : (o : Option Found) → o ≡ found_at d.dirs names → map.get t.paths (whole_path names) ≡ option_map (node_of n.tree) o
  node_resolved o e = met (node_at n.tree) t.paths part.paths names are ∙ ap (λ (d : NameTable). option_map (node_of n.tree) (found_at d.dirs names)) (sym same) ∙ ap (option_map (node_of n.tree)) (sym e)

  pub walk_resolved : (o : Option Errno) → refusal_by (node_at d) [] names ≡ o → walk_refusal_from t.paths [] names ≡ o
  walk_resolved o e = sym (refused_alike (node_at n.tree) t.paths part.paths [] names are) ∙ ap (λ (d : NameTable). refusal_by (node_at d) [] names) (sym same) ∙ e

  abbrev refused : Option Errno → Option Node → Option Errno
  refused way o = first_of way (refused_if (is_none o) Enoent)

  pub missing_resolved : refusal_by (node_at d) [] names ≡ None → None ≡ found_at d.dirs names → refused (walk_refusal_from t.paths [] names) (map.get t.paths (whole_path names)) ≡ Some Enoent
  missing_resolved passed none = ap (λ way. refused way (map.get t.paths (whole_path names))) (walk_resolved None passed) ∙ ap (refused None) (node_resolved None none)

  pub refused_resolved : (e : Errno) → refusal_by (node_at d) [] names ≡ Some e → refused (walk_refusal_from t.paths [] names) (map.get t.paths (whole_path names)) ≡ Some e
  refused_resolved e is = ap (λ way. refused way (map.get t.paths (whole_path names))) (walk_resolved (Some e) is)

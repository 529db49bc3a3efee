-- A small disk has one file.
use Rattle.std.proofs.Common.{◌≡◌, ℕ, ◌+◌, ◌≤◌, true, false, List, [], ◌∷◌, map, Some, unwrap_or, sym, refl, ap, ◌∙◌, subst, arith}
use Rattle.std.specs.List.{range_with_len}
use Rattle.std.specs.Ordering.{nat_cmp}
use Rattle.std.specs.FinMap as fin
use Rattle.std.specs.Cmp.{nat_cmp_total}
use Rattle.ufs_model.specs.FileBytes.{bytes_of}
use Rattle.std.specs.FinMap.{entries-insert, get-from_entries}
use Rattle.ufs_model.specs.Order.{path_cmp}
use Rattle.ufs_model.specs.PosixTree.{root}
use Rattle.ufs_model.specs.Start.{start_of, start_from}
use Rattle.ufs_model.specs.Walk.{node_at}
use Rattle.ufs_model.specs.declared.data.PathNode.{PathNode}
use Rattle.ufs_model.specs.declared.data.PathNode.TheVariants as path_node
use Rattle.ufs_model.specs.declared.data.Node.TheVariants.{Dir, File}
use Rattle.ufs_model.specs.PosixTree.{PosixTree}
use Rattle.ufs_model.proofs.Facts.Orders.{path_total}
use Rattle.ufs_model.proofs.Facts.Rising.{entries-empty}
use Rattle.ufs_model.proofs.Facts.Starts.{path_tree_of}
use Rattle.ufs_hand_laws.specs.Opened.{opened_file, opened_view}
use Rattle.ufs_hand_laws.specs.FileSession.{disk, HasOneFile, small_path, small_disk}
use Rattle.ufs_hand_laws.specs.Parts.{uses, file_uses}
use Rattle.ufs_hand_laws.specs.Owned.{times, weigh}
use Rattle.ufs_hand_laws.proofs.Owning.{none_some}

abbrev es : List (List ℕ × PathNode)
es = (root, path_node.Dir) ∷ (small_path, path_node.File []) ∷ []

is_nodes : fin.entries small_disk.nodes ≡ es
is_nodes =
    entries-insert path_total (fin.insert fin.empty small_path (path_node.File [])) root path_node.Dir
    ∙ ap (fin.put path_cmp root path_node.Dir) (entries-insert path_total fin.empty small_path (path_node.File []) ∙ ap (fin.put path_cmp small_path (path_node.File [])) (entries-empty path_cmp PathNode))

tree_is : start_of small_disk.nodes ≡ start_from es
tree_is = ap start_from is_nodes

node_is : node_at (start_from es).paths small_path ≡ Some (File 0)
node_is = get-from_entries path_total ((root, Dir) ∷ (small_path, File 0) ∷ []) small_path

uses_none : (b : ℕ) → uses b (opened_view (disk small_disk)) ≡ 0
uses_none b =
    let z : times b (opened_file (disk small_disk) 0).blocks ≡ 0 = ap (λ o. times b (unwrap_or o [])) (fin.get-empty nat_cmp 0) in
    ap (λ (t : PosixTree). weigh (file_uses b) (map (λ f. (f, opened_file (disk small_disk) f)) (range_with_len 0 t.next)) + 0) tree_is ∙ (omega arith)

pub has_one_file : HasOneFile small_disk
has_one_file = record {
  can = record {
    paths = path_tree_of es refl ((record { spelled = refl; allowed = refl }, refl), ((record { spelled = refl; allowed = refl }, refl), tt));
    small = subst (λ (t : PosixTree). t.next ≤ 1073741824) (sym tree_is) (omega arith);
    pools = λ n. omega arith;
    extents = λ f bs e. absurd (none_some bs (sym (fin.get-empty nat_cmp f) ∙ e));
    once = λ b. let z = uses_none b in omega arith;
    on_disk = λ visible. absurd (unseen visible.visible);
  };
  one_file = ap (λ (t : PosixTree). t.next) tree_is;
  text = refl;
  walk = refl;
  node = ap (λ (t : PosixTree). node_at t.paths small_path) tree_is ∙ node_is;
}
  where
    unseen : false ≡ true → ⊥
    unseen e = cc

-- its file has no bytes
pub no_bytes : (opened_file (disk small_disk) 0).bytes ≡ []
no_bytes = ap (λ (t : PosixTree). bytes_of t.bytes 0) tree_is ∙ ap (λ o. unwrap_or o []) (get-from_entries nat_cmp_total ((0, []) ∷ []) 0)

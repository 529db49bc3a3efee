-- One more path in the tree that a session begins with.
use Rattle.std.proofs.Common.{◌≡◌, ℕ, ◌+◌, ◌≤◌, ◌<◌, List, [], ◌∷◌, ◌++◌, true, None, ap, sym, subst, ◌∙◌, arith, length, get_or, take, drop, take-append-drop, append-nil}
use Rattle.std.proofs.lemmas.Bool.{le-ltb}
use Rattle.std.proofs.lemmas.List.{map-append, map_more}
use Rattle.std.specs.Prelude.{is_some}
use Rattle.std.specs.Cmp.{nat_cmp_total}
use Rattle.std.specs.FinMap as map
use Rattle.std.specs.FinMap.{find, is_sorted, nat_cmp-IsAntisymmetric, from_entries_push, get-from_entries, get-entries, same_map}
use Rattle.ufs_model.specs.Order.{path_cmp}
use Rattle.ufs_model.specs.PathEntries.{pairs_of, are_rising, nodes_of}
use Rattle.ufs_tree.specs.Placed.{with_path}
use Rattle.ufs_model.specs.Paths.{IsWhole}
use Rattle.ufs_model.specs.PosixTree.{PosixTree}
use Rattle.ufs_model.specs.Start.{PathNodes, IsPathTree, start_from, next_from, next_after, node_from, paths_from, bytes_from}
use Rattle.ufs_model.specs.declared.data.PathEntry.{PathEntry}
use Rattle.ufs_model.specs.declared.data.PathNode.{PathNode}
use Rattle.ufs_model.specs.declared.data.PathNode.TheVariants as path_node
use Rattle.ufs_model.proofs.Facts.Orders.{path_total, path_same}
use Rattle.ufs_tree.proofs.ListLemmas.{from_place}
use Rattle.ufs_model.proofs.Facts.Rising.{find-earlier}
use Rattle.ufs_tree.proofs.RisingLemmas.{found_there}
use Rattle.ufs_model.proofs.Facts.Allowed.{missing}
use Rattle.ufs_model.proofs.Facts.Starts.{Pairs, next_rises, stands-paths_from, held-bytes_from, within_zero}
use Rattle.ufs_tree.proofs.StartLemmas.{paths_from-push, bytes_from-push, next_from-push, next_from-append}

paths_push : (es : Pairs) (e : List ℕ × PathNode) → find path_cmp e.0 es ≡ None → map.insert (start_from es).paths e.0 (node_from (start_from es).next e.1) ≡ (start_from (es ++ e ∷ [])).paths
paths_push es e none =
    sym (ap map.from_entries (paths_from-push 0 es e)
    ∙ from_entries_push path_total path_same (paths_from 0 es) e.0 _ (missing _ (stands-paths_from e.0 0 es ∙ ap is_some none)))

bytes_push : (es : Pairs) (path bytes : List ℕ) → map.insert (start_from es).bytes (start_from es).next bytes ≡ (start_from (es ++ (path, path_node.File bytes) ∷ [])).bytes
bytes_push es path bytes =
    let next = next_from 0 es in
    sym (ap map.from_entries (bytes_from-push 0 es (path, path_node.File bytes))
    ∙ from_entries_push nat_cmp_total nat_cmp-IsAntisymmetric (bytes_from 0 es) next bytes (missing _ (held-bytes_from next 0 es ∙ within_zero next next ∙ le-ltb next next (omega arith))))

start_from-push : (es : Pairs) (e : List ℕ × PathNode) → find path_cmp e.0 es ≡ None → with_path (start_from es) e.0 e.1 ≡ start_from (es ++ e ∷ [])
start_from-push es (path, path_node.Dir) none =
    let bytes = ap map.from_entries (sym (bytes_from-push 0 es (path, path_node.Dir) ∙ append-nil (bytes_from 0 es))) in
    λ i. record { paths = paths_push es (path, path_node.Dir) none i; bytes = bytes i; fds = map.empty; next = sym (next_from-push 0 es (path, path_node.Dir)) i }
start_from-push es (path, path_node.File bytes) none =
    λ i. record { paths = paths_push es (path, path_node.File bytes) none i; bytes = bytes_push es path bytes i; fds = map.empty; next = sym (next_from-push 0 es (path, path_node.File bytes)) i }

-- no more files are numbered than there are in the end
numbers_fit : (es : Pairs) (e : List ℕ × PathNode) (later : Pairs) → next_after (start_from es).next e.1 ≤ (start_from (es ++ e ∷ later)).next
numbers_fit es e later = rw (next_from-append 0 es (e ∷ later)) (next_rises (next_after (next_from 0 es) e.1) later)

module _ (es : List PathEntry) (i : ℕ) (d : PathEntry) (below : i < length es) where
  divided : pairs_of (take i es) ++ ((get_or es i d).path, (get_or es i d).node) ∷ pairs_of (drop (i + 1) es) ≡ pairs_of es
  divided =
      sym (map-append (λ (e : PathEntry). (e.path, e.node)) (take i es) (get_or es i d ∷ drop (i + 1) es))
      ∙ ap pairs_of (ap (λ rest. take i es ++ rest) (sym (from_place es i d below)) ∙ take-append-drop i es)

  pub next_fits : (t : PosixTree) → t ≡ start_from (pairs_of (take i es)) → next_after t.next (get_or es i d).node ≤ (start_from (pairs_of es)).next
  next_fits t is =
      let e : List ℕ × PathNode = ((get_or es i d).path, (get_or es i d).node) in
      subst (λ (all : Pairs). next_after t.next e.1 ≤ (start_from all).next) divided
      (subst (λ (u : PosixTree). next_after u.next e.1 ≤ (start_from (pairs_of (take i es) ++ e ∷ pairs_of (drop (i + 1) es))).next) (sym is)
      (numbers_fit (pairs_of (take i es)) e (pairs_of (drop (i + 1) es))))

  pub next_placed : (t t' : PosixTree) → are_rising es ≡ true → t ≡ start_from (pairs_of (take i es)) → t' ≡ with_path t (get_or es i d).path (get_or es i d).node → t' ≡ start_from (pairs_of (take (i + 1) es))
  next_placed t t' rising is placed =
      let e : List ℕ × PathNode = ((get_or es i d).path, (get_or es i d).node) in
      let none = find-earlier path_cmp path_total (pairs_of (take i es)) e (pairs_of (drop (i + 1) es)) (ap (is_sorted path_cmp) divided ∙ rising) in
      placed ∙ ap (λ (t : PosixTree). with_path t e.0 e.1) is ∙ start_from-push (pairs_of (take i es)) e none ∙ ap start_from (sym (map_more (λ (e : PathEntry). (e.path, e.node)) es i d below))

  -- the path is whole, and nothing stands at it yet
  pub whole_entry : IsPathTree (nodes_of es) → IsWhole (get_or es i d).path
  whole_entry tree =
      let e : List ℕ × PathNode = ((get_or es i d).path, (get_or es i d).node) in
      tree.whole e.0 (ap is_some (get-from_entries path_total (pairs_of es) e.0) ∙ ap (λ all. is_some (find path_cmp e.0 all)) (sym divided)
      ∙ found_there path_cmp path_total (pairs_of (take i es)) e (pairs_of (drop (i + 1) es)))

  pub absent_entry : (t : PosixTree) → are_rising es ≡ true → t ≡ start_from (pairs_of (take i es)) → map.get t.paths (get_or es i d).path ≡ None
  absent_entry t rising is =
      let e : List ℕ × PathNode = ((get_or es i d).path, (get_or es i d).node) in
      let front = pairs_of (take i es) in
      let none = find-earlier path_cmp path_total front e (pairs_of (drop (i + 1) es)) (ap (is_sorted path_cmp) divided ∙ rising) in
      ap (λ (u : PosixTree). map.get u.paths e.0) is ∙ get-from_entries path_total (paths_from 0 front) e.0
      ∙ missing _ (stands-paths_from e.0 0 front ∙ ap is_some none)

-- the entries of a tree of paths make it anew
pub anew : (es : List PathEntry) (nodes : PathNodes) → pairs_of es ≡ map.entries nodes → nodes_of es ≡ nodes
anew es nodes is = ap map.from_entries is ∙ same_map path_total path_same _ _ (λ q. get-from_entries path_total (map.entries nodes) q ∙ sym (get-entries nodes q))

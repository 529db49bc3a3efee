-- The tree that a session begins with, a path at a time, and that it is a tree.
use Rattle.ufs_model.proofs.Facts.Orders.{path_total, path_same}
use Rattle.ufs_model.proofs.Facts.Rising.{entries-rising, entries-rise, entries-empty}
use Rattle.std.proofs.Common.{◌≡◌, ℕ, ◌+◌, ◌≤◌, List, [], ◌∷◌, Bool, true, false, cond, ◌&&◌, ◌||◌, eqb, ltb, leb, Some, Option, ap, sym, refl, subst, ◌∙◌, arith, length}
use Rattle.std.proofs.lemmas.Bool.{ltb-true}
use Rattle.std.proofs.lemmas.Bool.Decides.{nat_tests}
use Rattle.std.proofs.lemmas.List.{length-map}
use Rattle.std.specs.Prelude.{is_some}
use Rattle.std.specs.Ordering.{nat_cmp, is_lt, is_eq, eq_by_cmp}
use Rattle.std.specs.Cmp.{nat_cmp_total}
use Rattle.std.specs.List.{AllByRecursion, list_any}
use Rattle.std.specs.declared.cmp.Ordering.TheVariants.{Less, Equal, Greater}
use Rattle.std.specs.Map.{keys_of, values_of}
use Rattle.std.specs.FinMap as map
use Rattle.std.specs.FinMap.{find, is_sorted, get-entries, get-from_entries, entries-insert}
use Rattle.std.specs.FinMap.Entries.{below_all}
use Rattle.ufs_model.specs.Order.{path_cmp, fd_cmp}
use Rattle.ufs_model.specs.declared.data.Desc.{Desc}
use Rattle.ufs_model.specs.Paths.{IsWhole, parent_of}
use Rattle.ufs_model.specs.PosixTree.{IsNamespace, IsTree, is_node_of, is_desc_of, is_dir, is_live, stands, has_dir, root, root_alone}
use Rattle.ufs_model.specs.PathEntries.{pairs_of}
use Rattle.ufs_model.specs.declared.data.PathEntry.{PathEntry}
use Rattle.ufs_model.specs.declared.data.PathNode.{PathNode}
use Rattle.ufs_model.specs.declared.data.PathNode.TheVariants as path_node
use Rattle.ufs_model.specs.Start.{PathNodes, IsPathTree, path_root, start_from, start_of, is_path_dir, node_from, next_after, paths_from, bytes_from, next_from}

abbrev pub Pairs : Type 0
Pairs = List (List ℕ × PathNode)

-- ---- the paths are the same, and so is what stands there

pub below-paths_from : (k : List ℕ) (n : ℕ) (es : Pairs) → below_all path_cmp k (paths_from n es) ≡ below_all path_cmp k es
below-paths_from k n [] = refl
below-paths_from k n (e ∷ es) = ap (λ b. is_lt (path_cmp k e.0) && b) (below-paths_from k (next_after n e.1) es)

pub rising-paths_from : (n : ℕ) (es : Pairs) → is_sorted path_cmp (paths_from n es) ≡ is_sorted path_cmp es
rising-paths_from n [] = refl
rising-paths_from n (e ∷ es) = λ i. below-paths_from e.0 (next_after n e.1) es i && rising-paths_from (next_after n e.1) es i

pub stands-paths_from : (q : List ℕ) (n : ℕ) (es : Pairs) → is_some (find path_cmp q (paths_from n es)) ≡ is_some (find path_cmp q es)
stands-paths_from q n [] = refl
stands-paths_from q n (e ∷ es) =
    elim (eq_by_cmp path_cmp q e.0) as (λ b. is_some (cond b (Some (node_from n e.1)) (find path_cmp q (paths_from (next_after n e.1) es))) ≡ is_some (cond b (Some e.1) (find path_cmp q es))) [
      | true ↦ refl
      | false ↦ stands-paths_from q (next_after n e.1) es
    ]

pub same_kind : (n : ℕ) (node : PathNode) → is_dir (Some (node_from n node)) ≡ is_path_dir (Some node)
same_kind n path_node.Dir = refl
same_kind n (path_node.File bytes) = refl

pub dirs-paths_from : (q : List ℕ) (n : ℕ) (es : Pairs) → is_dir (find path_cmp q (paths_from n es)) ≡ is_path_dir (find path_cmp q es)
dirs-paths_from q n [] = refl
dirs-paths_from q n (e ∷ es) =
    elim (eq_by_cmp path_cmp q e.0) as (λ b. is_dir (cond b (Some (node_from n e.1)) (find path_cmp q (paths_from (next_after n e.1) es))) ≡ is_path_dir (cond b (Some e.1) (find path_cmp q es))) [
      | true ↦ same_kind n e.1
      | false ↦ dirs-paths_from q (next_after n e.1) es
    ]

-- ---- the numbers that are given: each from the first to the next, once

unfoldable pub is_within : ℕ → ℕ → ℕ → Bool
is_within n m f = leb n f && ltb f m

pub within_zero : (m f : ℕ) → is_within 0 m f ≡ ltb f m
unfolding is_within
within_zero m f = grind (arith, nat_tests)

pub within_none : (n f : ℕ) → false ≡ is_within n n f
unfolding is_within
within_none n f = grind (arith, nat_tests)

pub within_one : (n m f : ℕ) → n + 1 ≤ m → (eqb n f || is_within (n + 1) m f) ≡ is_within n m f
unfolding is_within
within_one n m f h = grind (arith, nat_tests)

pub tie : (f n : ℕ) → eq_by_cmp nat_cmp f n ≡ eqb n f
tie f n = grind (arith, nat_tests)

pub next_rises : (n : ℕ) (es : Pairs) → n ≤ next_from n es
next_rises n [] = omega arith
next_rises n ((p, path_node.Dir) ∷ es) = next_rises n es
next_rises n ((p, path_node.File bytes) ∷ es) = omega (arith, next_rises (n + 1) es)

pub few_files : (n : ℕ) (es : Pairs) → next_from n es ≤ n + length es
few_files n [] = omega arith
few_files n ((p, path_node.Dir) ∷ es) = omega (arith, few_files n es)
few_files n ((p, path_node.File bytes) ∷ es) = omega (arith, few_files (n + 1) es)

-- there are no more files than paths
pub files_of : (entries : List PathEntry) (nodes : PathNodes) → pairs_of entries ≡ map.entries nodes → (start_of nodes).next ≤ length entries
files_of entries nodes is =
    let all : next_from 0 (pairs_of entries) ≤ length entries =
    omega (arith, few_files 0 (pairs_of entries), length-map {B = List ℕ × PathNode} entries (λ (e : PathEntry). (e.path, e.node))) in
    subst (λ (es : Pairs). next_from 0 es ≤ length entries) is all

pub live-paths_from : (f n : ℕ) (es : Pairs) → list_any (is_node_of f) (values_of (paths_from n es)) ≡ is_within n (next_from n es) f
live-paths_from f n [] = within_none n f
live-paths_from f n ((p, path_node.Dir) ∷ es) = live-paths_from f n es
live-paths_from f n ((p, path_node.File bytes) ∷ es) = ap (λ b. eqb n f || b) (live-paths_from f (n + 1) es) ∙ within_one n _ f (next_rises (n + 1) es)

pub held-bytes_from : (f n : ℕ) (es : Pairs) → is_some (find nat_cmp f (bytes_from n es)) ≡ is_within n (next_from n es) f
held-bytes_from f n [] = within_none n f
held-bytes_from f n ((p, path_node.Dir) ∷ es) = held-bytes_from f n es
held-bytes_from f n ((p, path_node.File bytes) ∷ es) =
    is_some-cond (eq_by_cmp nat_cmp f n) bytes (find nat_cmp f (bytes_from (n + 1) es))
    ∙ (λ i. tie f n i || held-bytes_from f (n + 1) es i)
    ∙ within_one n _ f (next_rises (n + 1) es)
  where
    is_some-cond : (b : Bool) (x : List ℕ) (o : Option (List ℕ)) → is_some (cond b (Some x) o) ≡ (b || is_some o)
    is_some-cond true x o = refl
    is_some-cond false x o = refl

-- ---- the whole tree

-- the paths in it, in order
pub paths_entries : (nodes : PathNodes) → map.entries (start_of nodes).paths ≡ paths_from 0 (map.entries nodes)
paths_entries nodes = entries-rising path_cmp path_total path_same (paths_from 0 (map.entries nodes)) (rising-paths_from 0 (map.entries nodes) ∙ entries-rise nodes)

pub stands-start : (nodes : PathNodes) (q : List ℕ) → is_some (map.get nodes q) ≡ stands (start_of nodes).paths q
stands-start nodes q =
    ap is_some (get-entries nodes q)
    ∙ sym (stands-paths_from q 0 (map.entries nodes))
    ∙ ap is_some (sym (get-from_entries path_total (paths_from 0 (map.entries nodes)) q))

pub dirs-start : (nodes : PathNodes) (q : List ℕ) → is_path_dir (map.get nodes q) ≡ has_dir (start_of nodes).paths q
dirs-start nodes q =
    ap is_path_dir (get-entries nodes q)
    ∙ sym (dirs-paths_from q 0 (map.entries nodes))
    ∙ ap is_dir (sym (get-from_entries path_total (paths_from 0 (map.entries nodes)) q))

pub held-start : (nodes : PathNodes) (f : ℕ) → is_some (map.get (start_of nodes).bytes f) ≡ ltb f (start_of nodes).next
held-start nodes f =
    ap is_some (get-from_entries nat_cmp_total (bytes_from 0 (map.entries nodes)) f)
    ∙ held-bytes_from f 0 (map.entries nodes) ∙ within_zero (start_of nodes).next f

pub or_false : (b : Bool) → b ≡ (b || false)
or_false true = refl
or_false false = refl

pub live-start : (nodes : PathNodes) (f : ℕ) → ltb f (start_of nodes).next ≡ is_live (start_of nodes).paths (start_of nodes).fds f
live-start nodes f =
    sym (within_zero (start_of nodes).next f)
    ∙ sym (live-paths_from f 0 (map.entries nodes))
    ∙ ap (λ es. list_any (is_node_of f) (values_of es)) (sym (paths_entries nodes))
    ∙ or_false _
    ∙ ap (λ es. list_any (is_node_of f) (map.values (start_of nodes).paths) || list_any (is_desc_of f) (values_of es)) (sym (entries-empty fd_cmp Desc))

pub start_is_tree : (nodes : PathNodes) → IsPathTree nodes → IsTree (start_of nodes)
start_is_tree nodes tree = record {
  namespace = subst (λ (s : List ℕ → Bool). IsNamespace s (has_dir (start_of nodes).paths)) (λ i q. stands-start nodes q i)
      (subst (λ (d : List ℕ → Bool). IsNamespace (λ path. is_some (map.get nodes path)) d) (λ i q. dirs-start nodes q i) tree);
  live = λ f. held-start nodes f ∙ live-start nodes f;
  numbered = λ f held. ltb-true f _ (sym (held-start nodes f) ∙ held);
}

-- ---- from a list

-- what holds of each path of a list holds of one that is found in it
pub found : (P : List ℕ → Type 0) (q : List ℕ) (es : Pairs) → AllByRecursion P (keys_of es) → is_some (find path_cmp q es) ≡ true → P q
found P q [] all is = cc
found P q (e ∷ es) all is =
    elim (path_cmp q e.0) as (λ r. path_cmp q e.0 ≡ r → is_some (cond (is_eq r) (Some e.1) (find path_cmp q es)) ≡ true → P q) [
      | Less ↦ λ _ is. found P q es all.1 is
      | Equal ↦ λ tied _. subst P (sym (path_same q e.0 tied)) all.0
      | Greater ↦ λ _ is. found P q es all.1 is
    ] refl is

-- a whole path whose parent is a directory of the list
abbrev pub Fits : Pairs → List ℕ → Type 0
Fits es path = IsWhole path × (is_path_dir (find path_cmp (parent_of path) es) ≡ true)

pub path_tree_of : (es : Pairs) → is_path_dir (find path_cmp root es) ≡ true → AllByRecursion (Fits es) (keys_of es) → IsPathTree (map.from_entries es)
path_tree_of es dir all = record {
  root_is_dir = ap is_path_dir (get-from_entries path_total es root) ∙ dir;
  whole = λ path stands. (found (Fits es) path es all (sym (ap is_some (get-from_entries path_total es path)) ∙ stands)).0;
  parents = λ path stands. ap is_path_dir (get-from_entries path_total es (parent_of path)) ∙ (found (Fits es) path es all (sym (ap is_some (get-from_entries path_total es path)) ∙ stands)).1;
}

-- ---- the root alone

pub root_is_tree : IsPathTree path_root
root_is_tree = path_tree_of ((root, path_node.Dir) ∷ []) refl ((record { spelled = refl; allowed = refl }, refl), tt)

pub root_entries : map.entries path_root ≡ (root, path_node.Dir) ∷ []
root_entries = entries-insert path_total map.empty root path_node.Dir ∙ ap (map.put path_cmp root path_node.Dir) (entries-empty path_cmp PathNode)

pub start_of-root : start_of path_root ≡ root_alone
start_of-root = ap start_from root_entries

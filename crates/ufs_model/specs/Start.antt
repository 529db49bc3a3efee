-- The tree that a session begins with: a tree of paths, its files numbered by rising path, and nothing open.
use Rattle.std.specs.Prelude.{ℕ, ◌+◌, ◌<◌, ◌≡◌, List, [], ◌∷◌, Bool, true, false, Option, Some, None, is_some}
use Rattle.std.specs.Option.{option_map}
use Rattle.std.specs.declared.cmp.Ordering.TheVariants.{Less}
use Rattle.std.specs.FinMap as map
use Rattle.ufs_model.specs.Order.{path_cmp}
use Rattle.ufs_model.specs.PosixTree.{PosixTree, Files, IsNamespace, IsTree}
use Rattle.ufs_model.specs.declared.data.Node.{Node}
use Rattle.ufs_model.specs.declared.data.Node.TheVariants.{Dir, File}
use Rattle.ufs_model.specs.declared.data.PathNode.{PathNode}
use Rattle.ufs_model.specs.declared.data.PathNode.TheVariants as path_node

-- whole paths, each a directory or a file's bytes
abbrev pub PathNodes : Type 0
PathNodes = map.FinMap path_cmp PathNode

abbrev pub is_path_dir : Option PathNode → Bool
is_path_dir None = false
is_path_dir (Some path_node.Dir) = true
is_path_dir (Some (path_node.File bytes)) = false

-- the root and each parent are directories
abbrev pub IsPathTree : PathNodes → Type 0
IsPathTree nodes = IsNamespace (λ path. is_some (map.get nodes path)) (λ path. is_path_dir (map.get nodes path))

-- the root alone
abbrev pub path_root : PathNodes
path_root = map.insert map.empty (47 ∷ []) path_node.Dir

-- what stands there in a tree, if the next file has that number
abbrev pub node_from : ℕ → PathNode → Node
node_from next path_node.Dir = Dir
node_from next (path_node.File bytes) = File next

-- the number of the file after it
abbrev pub next_after : ℕ → PathNode → ℕ
next_after next path_node.Dir = next
next_after next (path_node.File bytes) = next + 1

-- its bytes before those of others
abbrev pub bytes_onto : ℕ → PathNode → List (ℕ × List ℕ) → List (ℕ × List ℕ)
bytes_onto next path_node.Dir more = more
bytes_onto next (path_node.File bytes) more = (next, bytes) ∷ more

-- paths and their nodes in rising order, the files numbered from a number on
abbrev pub paths_from : ℕ → List (List ℕ × PathNode) → List (List ℕ × Node)
paths_from next [] = []
paths_from next (e ∷ es) = (e.0, node_from next e.1) ∷ paths_from (next_after next e.1) es

abbrev pub bytes_from : ℕ → List (List ℕ × PathNode) → List (ℕ × List ℕ)
bytes_from next [] = []
bytes_from next (e ∷ es) = bytes_onto next e.1 (bytes_from (next_after next e.1) es)

abbrev pub next_from : ℕ → List (List ℕ × PathNode) → ℕ
next_from next [] = next
next_from next (e ∷ es) = next_from (next_after next e.1) es

-- the tree of paths that are given in rising order
abbrev pub start_from : List (List ℕ × PathNode) → PosixTree
start_from es = record {
  paths = map.from_entries (paths_from 0 es);
  bytes = map.from_entries (bytes_from 0 es);
  fds = map.empty;
  next = next_from 0 es;
}

abbrev pub start_of : PathNodes → PosixTree
start_of nodes = start_from (map.entries nodes)

-- what stands at a path of a tree, with a file's bytes in place of its number
abbrev pub content_of : Files → Option Node → Option PathNode
content_of bytes None = None
content_of bytes (Some Dir) = Some path_node.Dir
content_of bytes (Some (File f)) = option_map path_node.File (map.get bytes f)

-- the tree has these paths, with these bytes
abbrev pub HasContents : PosixTree → PathNodes → Type 0
HasContents t nodes = (path : List ℕ) → content_of t.bytes (map.get t.paths path) ≡ map.get nodes path

-- files have numbers in the order of their paths
abbrev pub IsNumberedByPath : PosixTree → Type 0
IsNumberedByPath t = (p q : List ℕ) (f g : ℕ) → map.get t.paths p ≡ Some (File f) → map.get t.paths q ≡ Some (File g) → path_cmp p q ≡ Less → f < g

-- ---- what the numbered tree of a tree of paths is

abbrev pub StartsAreTrees : Type 0
StartsAreTrees = (nodes : PathNodes) → IsPathTree nodes → IsTree (start_of nodes)

abbrev pub StartsHaveContents : Type 0
StartsHaveContents = (nodes : PathNodes) → HasContents (start_of nodes) nodes

abbrev pub StartsAreNumbered : Type 0
StartsAreNumbered = (nodes : PathNodes) → IsNumberedByPath (start_of nodes)

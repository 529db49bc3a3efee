-- A tree to which paths are added by rising path.
use Rattle.std.specs.Prelude.{ℕ, ◌+◌, List}
use Rattle.std.specs.FinMap as map
use Rattle.ufs_model.specs.PosixTree.{PosixTree}
use Rattle.ufs_model.specs.declared.data.Node.TheVariants.{Dir, File}
use Rattle.ufs_model.specs.declared.data.PathNode.{PathNode}
use Rattle.ufs_model.specs.declared.data.PathNode.TheVariants as path_node

-- the tree with one more path. A file gets the next number
abbrev pub with_path : PosixTree → List ℕ → PathNode → PosixTree
with_path t path path_node.Dir = record t { paths = map.insert t.paths path Dir }
with_path t path (path_node.File bytes) = record t { paths = map.insert t.paths path (File t.next); bytes = map.insert t.bytes t.next bytes; next = t.next + 1 }

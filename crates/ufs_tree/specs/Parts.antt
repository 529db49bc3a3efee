-- The tree that the maps of a program stand for.
use Rattle.ufs_model.specs.PosixTree.{PosixTree}
use Rattle.ufs_tree.specs.declared.tree.Parts.{Parts}

abbrev pub tree_of : Parts → PosixTree
tree_of p = record { paths = p.paths; bytes = p.bytes; fds = p.fds; next = p.next }

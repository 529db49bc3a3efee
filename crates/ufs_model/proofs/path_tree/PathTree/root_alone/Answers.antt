use Rattle.std.proofs.Common.{◌≡◌, ap, sym, subst, ◌∙◌, rules}
use Rattle.ufs_model.specs.Start.{PathNodes, IsPathTree, path_root, start_of}
use Rattle.ufs_model.specs.PathEntries.{nodes_of}
use Rattle.ufs_model.proofs.Facts.Starts.{root_is_tree, start_of-root}
use Rattle.ufs_model.proofs.path_tree.PathTree.root_alone.Goals as goal

pub returns-clause-tree : goal.returns-clause-tree
returns-clause-tree c =
    let is : nodes_of c.push-2.new.self.items ≡ path_root = search rules in
    subst (λ (nodes : PathNodes). IsPathTree nodes) (sym is) root_is_tree

pub returns-clause-start : goal.returns-clause-start
returns-clause-start c =
    let is : nodes_of c.push-2.new.self.items ≡ path_root = search rules in
    ap start_of is ∙ start_of-root

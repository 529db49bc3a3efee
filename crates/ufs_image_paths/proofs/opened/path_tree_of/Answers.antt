use Rattle.std.proofs.Common.{false, true, ◌≡◌, ◌∙◌, subst, sym}
use Rattle.ufs_disk.specs.Moments.{reads}
use Rattle.ufs_promise_laws.specs.Starts.{ImagesArePathTrees}
use Rattle.ufs_image_paths.proofs.OpenedLemmas.{is_paths, tree_of}
use Rattle.ufs_image_paths.proofs.opened.path_tree_of.Goals as goal

pub returns-then-not-is_path_tree-clause-refused : goal.returns-then-not-is_path_tree-clause-refused
returns-then-not-is_path_tree-clause-refused g c visible =
    let paths = is_paths (g.D.Disk.size c.args.disk.now) (reads (g.D.Disk.moments c.args.disk.now)) c.in_ok-tree.tree (c.in_ok-tree.ensures.tree visible)
    (subst ImagesArePathTrees c.sectors.ensures c.image_start_law.ensures.paths) in
    let no : true ≡ false = sym (c.is_path_tree.ensures.1 paths) ∙ c.if-not-is_path_tree.true in
    cc

pub returns-clause-tree : goal.returns-clause-tree
returns-clause-tree g c visible = tree_of (g.D.Disk.size c.args.disk.now) (reads (g.D.Disk.moments c.args.disk.now)) c.in_ok-tree.tree (c.in_ok-tree.ensures.tree visible)

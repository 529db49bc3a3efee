use Rattle.std.proofs.Common.{◌≤◌, sym, arith, length}
use Rattle.ufs_model.specs.Order.{path_cmp}
use Rattle.ufs_model.specs.PathEntries.{pairs_of, nodes_of}
use Rattle.ufs_model.specs.Start.{start_of}
use Rattle.ufs_model.proofs.Facts.Orders.{path_total, path_same}
use Rattle.ufs_model.proofs.Facts.Rising.{entries-rising}
use Rattle.ufs_model.proofs.Facts.Starts.{files_of}
use Rattle.ufs_model.proofs.path_tree.PathTree.from_vec.Goals as goal

pub returns-clause-entries : goal.returns-clause-entries
returns-clause-entries c = entries-rising path_cmp path_total path_same (pairs_of c.args.entries.items) c.requires

pub returns-clause-files : goal.returns-clause-files
returns-clause-files c =
    let few : (start_of (nodes_of c.args.entries.items)).next ≤ length c.args.entries.items =
    files_of c.args.entries.items _ (sym (entries-rising path_cmp path_total path_same (pairs_of c.args.entries.items) c.requires)) in
    omega (arith, few, c.args.entries.ok.0)

use Rattle.std.proofs.Common.{ap, sym, ◌∙◌}
use Rattle.std.specs.FinMap as map
use Rattle.ufs_model.specs.Order.{path_cmp}
use Rattle.ufs_model.specs.PathEntries.{pairs_of}
use Rattle.ufs_model.proofs.Facts.Orders.{path_total, path_same}
use Rattle.ufs_model.proofs.Facts.Rising.{entries-rising}
use Rattle.ufs_model.proofs.path_tree.PathTree.into_vec.Goals as goal

pub returns-clause-entries : goal.returns-clause-entries
returns-clause-entries c =
    sym (entries-rising path_cmp path_total path_same (pairs_of c.self.inside.entries.items) c.self.invariant) ∙ ap map.entries c.self.view_is

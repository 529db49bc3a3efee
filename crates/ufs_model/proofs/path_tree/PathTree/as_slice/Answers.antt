use Rattle.std.proofs.Common.{◌≡◌, ap, sym, ◌∙◌}
use Rattle.std.specs.FinMap as map
use Rattle.ufs_model.specs.Order.{path_cmp}
use Rattle.ufs_model.specs.PathEntries.{pairs_of}
use Rattle.ufs_model.proofs.Facts.Orders.{path_total, path_same}
use Rattle.ufs_model.proofs.Facts.Rising.{entries-rising}
use Rattle.ufs_model.proofs.Facts.Starts.{files_of}
use Rattle.ufs_model.proofs.path_tree.PathTree.as_slice.Goals as goal
use Rattle.ufs_model.proofs.path_tree.PathTree.as_slice.Goals.{After-as_slice}

pairs : (c : After-as_slice) → pairs_of c.as_slice.result.now ≡ map.entries c.args.self.now
pairs c =
    ap pairs_of c.as_slice.ensures.value
    ∙ sym (entries-rising path_cmp path_total path_same (pairs_of c.self.inside.entries.items) c.self.invariant)
    ∙ ap map.entries c.self.view_is

pub returns-clause-entries : goal.returns-clause-entries
returns-clause-entries c = pairs c

pub returns-clause-files : goal.returns-clause-files
returns-clause-files c = files_of c.as_slice.result.now c.args.self.now (pairs c)

use Rattle.std.proofs.Common.{ap, ◌∙◌}
use Rattle.std.specs.FinMap as map
use Rattle.ufs_model.specs.Order.{path_cmp}
use Rattle.ufs_calls.proofs.Facts.Maps.{remove-seen}
use Rattle.ufs_model.proofs.Facts.Orders.{path_total, path_same}
use Rattle.ufs_tree.proofs.node_map.NodeMap.remove.Goals as goal

pub returns : goal.returns
returns c =
    let at = c.args.path.now in
    remove-seen path_cmp (λ k. k.items) path_total path_same c.self.inside.entries c.remove-node.new.self at c.len-count.ensures.ordered c.remove-node.ensures.entries
    ∙ ap (λ m. map.remove m at) c.self.view_is

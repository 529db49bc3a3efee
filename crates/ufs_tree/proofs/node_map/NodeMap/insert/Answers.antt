use Rattle.std.proofs.Common.{ap, sym, ◌∙◌}
use Rattle.std.specs.FinMap as map
use Rattle.ufs_model.specs.Order.{path_cmp}
use Rattle.ufs_model.specs.PosixTree.{Paths}
use Rattle.ufs_calls.proofs.Facts.Maps.{insert-seen, get-seen}
use Rattle.ufs_model.proofs.Facts.Orders.{path_total, path_same}
use Rattle.ufs_tree.proofs.node_map.NodeMap.insert.Goals as goal

pub returns-in-Err-clause-absent : goal.returns-in-Err-clause-absent
returns-in-Err-clause-absent c =
    let at = c.args.path.items in
    ap (λ (m : Paths). map.get m at) (sym c.self.view_is) ∙ get-seen path_cmp (λ k. k.items) path_total path_same c.self.inside.entries at ∙ c.in-Err.ensures.absent

pub returns-clause-ok : goal.returns-clause-ok
returns-clause-ok c =
    insert-seen path_cmp (λ k. k.items) path_total path_same c.self.inside.entries c.insert.new.self c.args.path c.args.node c.in_default.ensures.entries
    ∙ ap (λ (m : Paths). map.insert m c.args.path.items c.args.node) c.self.view_is

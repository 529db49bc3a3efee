use Rattle.std.proofs.Common.{sym, ap, ◌∙◌}
use Rattle.std.specs.FinMap as map
use Rattle.ufs_model.specs.Order.{path_cmp}
use Rattle.ufs_calls.proofs.Facts.Maps.{get-seen}
use Rattle.ufs_model.proofs.Facts.Orders.{path_total, path_same}
use Rattle.ufs_walk.proofs.places.PlaceMap.get.Goals as goal

pub returns : goal.returns
returns c =
    let at = c.args.path.now in
    c.copied.ensures ∙ c.get.ensures.value
    ∙ sym (get-seen path_cmp (λ k. k.items) path_total path_same c.self.inside.entries at)
    ∙ ap (λ m. map.get m at) c.self.view_is

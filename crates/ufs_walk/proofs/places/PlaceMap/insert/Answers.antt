use Rattle.std.proofs.Common.{ap, ◌∙◌}
use Rattle.std.specs.FinMap as map
use Rattle.ufs_model.specs.Order.{path_cmp}
use Rattle.ufs_calls.proofs.Facts.Maps.{insert-seen}
use Rattle.ufs_model.proofs.Facts.Orders.{path_total, path_same}
use Rattle.ufs_walk.proofs.places.PlaceMap.insert.Goals as goal

pub returns : goal.returns
returns c =
    insert-seen path_cmp (λ k. k.items) path_total path_same c.self.inside.entries c.insert.new.self c.args.path c.args.inode c.in_ok-insert.ensures.entries
    ∙ ap (λ m. map.insert m c.args.path.items c.args.inode) c.self.view_is

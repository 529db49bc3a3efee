use Rattle.std.proofs.Common.{ℕ, ap, ◌∙◌}
use Rattle.std.specs.FinMap as map
use Rattle.ufs_model.specs.Order.{fd_cmp}
use Rattle.ufs_calls.proofs.Facts.Maps.{remove-seen}
use Rattle.ufs_model.proofs.Facts.Orders.{fd_total, fd_same}
use Rattle.ufs_tree.proofs.desc_map.DescMap.remove.Goals as goal

pub returns : goal.returns
returns c =
    let at : ℕ × ℕ = (c.args.client, c.args.fd) in
    remove-seen fd_cmp (λ k. k) fd_total fd_same c.self.inside.entries c.remove-desc.new.self at c.len-count.ensures.ordered c.remove-desc.ensures.entries
    ∙ ap (λ m. map.remove m at) c.self.view_is

use Rattle.std.proofs.Common.{ℕ, sym, ap, ◌∙◌}
use Rattle.std.specs.FinMap as map
use Rattle.ufs_model.specs.Order.{fd_cmp}
use Rattle.ufs_calls.proofs.Facts.Maps.{get-seen}
use Rattle.ufs_model.proofs.Facts.Orders.{fd_total, fd_same}
use Rattle.ufs_tree.proofs.desc_map.DescMap.get.Goals as goal

pub returns : goal.returns
returns c =
    let at : ℕ × ℕ = (c.args.client, c.args.fd) in
    c.copied.ensures ∙ c.get.ensures.value
    ∙ sym (get-seen fd_cmp (λ k. k) fd_total fd_same c.self.inside.entries at)
    ∙ ap (λ m. map.get m at) c.self.view_is

use Rattle.std.proofs.Common.{ℕ, sym, ap, ◌∙◌}
use Rattle.std.specs.FinMap as map
use Rattle.ufs_model.specs.Order.{fd_cmp}
use Rattle.ufs_calls.proofs.Facts.Maps.{insert-seen, get-seen, on_err}
use Rattle.ufs_model.proofs.Facts.Orders.{fd_total, fd_same}
use Rattle.ufs_tree.proofs.desc_map.DescMap.insert.Goals as goal

pub returns-clause-ok : goal.returns-clause-ok
returns-clause-ok c =
    let at : ℕ × ℕ = (c.args.client, c.args.fd) in
    insert-seen fd_cmp (λ k. k) fd_total fd_same c.self.inside.entries c.insert.new.self at c.args.desc c.in_ok-insert.ensures.entries
    ∙ ap (λ m. map.insert m at c.args.desc) c.self.view_is

pub returns-in_err-insert-clause-absent : goal.returns-in_err-insert-clause-absent
returns-in_err-insert-clause-absent c =
    let at : ℕ × ℕ = (c.args.client, c.args.fd) in
    on_err c.from_residual.result (ap (λ m. map.get m at) (sym c.self.view_is) ∙ get-seen fd_cmp (λ k. k) fd_total fd_same c.self.inside.entries at ∙ c.in_err-insert.ensures.absent)

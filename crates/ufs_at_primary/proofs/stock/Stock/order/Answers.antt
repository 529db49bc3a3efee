use Rattle.std.proofs.Common.{subst}
use Rattle.ufs_at_primary.specs.Orders.{IsFileOrdered}
use Rattle.ufs_at_primary.specs.Stock.{StockState, stock_of}
use Rattle.ufs_at_primary.proofs.AtHome.{here_ordered}
use Rattle.ufs_at_primary.proofs.stock.Stock.order.Goals as goal

pub order_file-requires-clause-pool : goal.order_file-requires-clause-pool
order_file-requires-clause-pool g c = (c.self.inside.pool, c.self.invariant.hand)

pub invariant_of-self : goal.invariant_of-self
invariant_of-self g c =
    let h = c.self.invariant in
    let f = c.self.inside in
    let o = c.order_file in
    record {
      formed = h.formed;
      its = h.its;
      numbers = h.numbers;
      hand = o.ensures.pool f.pool h.hand;
      few = h.few;
      here = here_ordered g.N.Naming.start.is_visible (stock_of f.names f.home f.pool) (stock_of o.new.names o.new.home f.pool) c.args.file c.args.to o.result (o.ensures.ordered f.pool) h.here;
    }

pub returns-clause-ordered : goal.returns-clause-ordered
returns-clause-ordered g c =
    let f = c.self.inside in
    let o = c.order_file in
    subst (λ (s : StockState). IsFileOrdered g.N.Naming.start.is_visible s (stock_of o.new.names o.new.home f.pool) c.args.file c.args.to o.result) c.self.view_is (o.ensures.ordered f.pool)

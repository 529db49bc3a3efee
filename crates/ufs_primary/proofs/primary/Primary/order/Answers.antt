use Rattle.std.proofs.Common.{ap, subst}
use Rattle.ufs_at_primary.specs.Orders.{IsFileOrdered}
use Rattle.ufs_primary.specs.Primary.{PrimaryState}
use Rattle.ufs_primary.proofs.primary.Primary.order.Goals as goal

pub returns-clause-ordered : goal.returns-clause-ordered
returns-clause-ordered g c = subst (λ (s : PrimaryState). IsFileOrdered g.N.Naming.start.is_visible s.stock c.order.new.self c.args.file c.args.to c.order.result) c.self.view_is c.order.ensures.ordered

pub returns-clause-rest : goal.returns-clause-rest
returns-clause-rest g c = ap (λ (s : PrimaryState). record s { stock = c.order.new.self }) c.self.view_is

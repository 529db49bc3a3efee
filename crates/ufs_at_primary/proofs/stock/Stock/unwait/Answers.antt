use Rattle.std.proofs.Common.{ap, sym, subst, ◌∙◌}
use Rattle.ufs_home.specs.Home.{HomeState}
use Rattle.ufs_at_primary.specs.Noted.{unwaited}
use Rattle.ufs_at_primary.specs.Stock.{AreHere, StockState, stock_of}
use Rattle.ufs_at_primary.proofs.AtHome.{here_unwaited}
use Rattle.ufs_at_primary.proofs.stock.Stock.unwait.Goals as goal

pub invariant_of-self : goal.invariant_of-self
invariant_of-self g c =
    let h = c.self.invariant in
    let f = c.self.inside in
    record { formed = h.formed; its = h.its; numbers = h.numbers; hand = h.hand; few = h.few; here = subst (AreHere f.names) (sym c.unwait.ensures) (here_unwaited f.names f.home c.args.file c.args.client h.here) }

pub returns : goal.returns
returns g c =
    let f = c.self.inside in
    ap (λ (h : HomeState). stock_of f.names h f.pool) c.unwait.ensures ∙ ap (λ (s : StockState). record s { home = unwaited s.home c.args.file c.args.client }) c.self.view_is

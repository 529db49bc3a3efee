use Rattle.ufs_at_primary.proofs.AtHome.{here_awaited}
use Rattle.ufs_at_primary.proofs.stock.Stock.await_file.Goals as goal

pub invariant_of-self-2 : goal.invariant_of-self-2
invariant_of-self-2 g c =
    let h = c.self.invariant in
    let f = c.self.inside in
    record { formed = h.formed; its = h.its; numbers = h.numbers; hand = h.hand; few = h.few; here = here_awaited f.names f.home c.call_for.new.self c.wait.new.self c.args.file c.args.client c.wait.result c.in_ok-call_for.ensures.ok c.wait.ensures.ok c.wait.ensures.err h.here }

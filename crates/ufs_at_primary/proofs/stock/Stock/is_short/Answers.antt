use Rattle.std.proofs.Common.{None, ap, subst, ◌∙◌}
use Rattle.ufs_held.proofs.Stopping.{rests_twice}
use Rattle.ufs_serving.specs.Pools.{AreConserved}
use Rattle.ufs_serving.proofs.Conserving.{conserved_then}
use Rattle.ufs_at_primary.specs.Stock.{StockState}
use Rattle.ufs_at_primary.proofs.stock.Stock.is_short.Goals as goal

pub fill-requires : goal.fill-requires
fill-requires g c = record { pool = (4294967295, c.self.invariant.hand) }

pub rest-requires : goal.rest-requires
rest-requires g c = record { pool = (4294967295, c.fill.ensures.pool 4294967295 c.self.invariant.hand) }

pub returns-clause-rest : goal.returns-clause-rest
returns-clause-rest g c = ap (λ (s : StockState). record s { pool = c.rest.new.pool }) c.self.view_is

pub returns-clause-conserved : goal.returns-clause-conserved
returns-clause-conserved g c =
    let tells = g.T.Turns.tells in
    subst (λ (s : StockState). AreConserved (tells c.args.door.now) (tells c.rest.new.door) s.pool c.rest.new.pool) c.self.view_is
    (conserved_then (tells c.args.door.now) (tells c.fill.new.door) (tells c.rest.new.door) c.self.inside.pool c.fill.new.pool c.rest.new.pool c.fill.ensures.telling c.fill.ensures.conserved c.rest.ensures.conserved)

pub returns-clause-telling : goal.returns-clause-telling
returns-clause-telling g c = c.rest.ensures.telling ∙ c.fill.ensures.telling

pub returns-clause-still : goal.returns-clause-still
returns-clause-still g c =
    let tells = g.T.Turns.tells in
    rests_twice (tells c.args.door.now) (tells c.fill.new.door) (tells c.rest.new.door) None c.fill.ensures.telling c.fill.ensures.still c.rest.ensures.still

pub invariant_of-self : goal.invariant_of-self
invariant_of-self g c =
    let h = c.self.invariant in
    record { formed = h.formed; its = h.its; numbers = h.numbers; hand = c.rest.ensures.pool 4294967295 (c.fill.ensures.pool 4294967295 h.hand); few = c.rest.ensures.few; here = h.here }

use Rattle.std.proofs.Common.{◌≡◌, subst}
use Rattle.ufs_msg.specs.Answers.{Told}
use Rattle.ufs_msg.specs.declared.answer.Answer.TheVariants as answer
use Rattle.ufs_at_primary.specs.Excused.{IsExcusedHere}
use Rattle.ufs_at_primary.specs.Stock.{StockState}
use Rattle.ufs_at_primary.proofs.stock.Stock.excuse.Goals as goal

pub excuse-requires-clause-pool : goal.excuse-requires-clause-pool
excuse-requires-clause-pool g c = (c.self.inside.pool, c.self.invariant.hand)

pub invariant_of-self : goal.invariant_of-self
invariant_of-self g c =
    let h = c.self.invariant in
    record { formed = h.formed; its = h.its; numbers = h.numbers; hand = c.excuse.ensures.pool c.self.inside.pool h.hand; few = h.few; here = h.here }

pub returns-clause-excused : goal.returns-clause-excused
returns-clause-excused g c =
    subst (λ (s : StockState). (told : Told) × (c.excuse.result ≡ answer.Served told) × IsExcusedHere (g.T.Turns.tells c.args.door.now) (g.T.Turns.tells c.excuse.new.door) s.home.owners c.args.request.ask told) c.self.view_is c.excuse.ensures.excused

pub returns-clause-rest : goal.returns-clause-rest
returns-clause-rest g c = c.self.view_is

use Rattle.std.proofs.Common.{◌<◌, ◌^◌, ℕ, ap, sym, subst, ◌∙◌}
use Rattle.std.specs.Prelude.{IsSome}
use Rattle.std.specs.FinMap as fin
use Rattle.ufs_file.specs.Hand.{IsOf}
use Rattle.ufs_home.specs.Places.{file_here}
use Rattle.ufs_at_primary.specs.Stock.{AreHere, StockState, stock_of}
use Rattle.ufs_at_primary.proofs.AtHome.{here_answered}
use Rattle.ufs_at_primary.proofs.Excuses.{opened_on}
use Rattle.ufs_at_primary.proofs.Outcomes.{on_file, answered_from}
use Rattle.ufs_at_primary.proofs.Trials.{lent_place, of_file}
use Rattle.ufs_at_primary.proofs.stock.Stock.serve_at_hand.Goals as goal

pub lend-requires : goal.lend-requires
lend-requires g c = subst (λ (s : StockState). IsSome (file_here s.home.places c.args.file)) (sym c.self.view_is) c.requires.here

pub lacking-requires-clause-pool : goal.lacking-requires-clause-pool
lacking-requires-clause-pool g c = (c.self.inside.pool, c.self.invariant.hand)

pub lacking-requires-clause-opened : goal.lacking-requires-clause-opened
lacking-requires-clause-opened g c = opened_on c.args.request.ask c.args.file c.requires.kind

pub serve_here-held-requires-clause-on_file : goal.serve_here-held-requires-clause-on_file
serve_here-held-requires-clause-on_file g c = let k = c.requires.kind in k.kind

pub serve_here-held-requires-clause-named : goal.serve_here-held-requires-clause-named
serve_here-held-requires-clause-named g c =
    let k = c.requires.kind in
    subst (IsOf c.args.request.ask.desc) (sym c.in-Ok.ensures.number) (of_file c.args.request.ask.desc c.args.file k.of)

pub put_back-requires-clause-empty : goal.put_back-requires-clause-empty
put_back-requires-clause-empty g c =
    let s = c.serve_here-held.ensures.served in
    let here = s.2 in
    ap (fin.get c.lend.new.self.places) (here.number ∙ c.in-Ok.ensures.number) ∙ lent_place c.self.inside.home c.lend.new.self c.args.file c.in-Ok.ensures.lent

pub put_back-requires-clause-low : goal.put_back-requires-clause-low
put_back-requires-clause-low g c =
    let s = c.serve_here-held.ensures.served in
    let here = s.2 in
    subst (λ (n : ℕ). n < 2 ^ 31) (sym here.number) c.in-Ok.ensures.low

pub returns-in-Err-clause-answered : goal.returns-in-Err-clause-answered
returns-in-Err-clause-answered g c =
    let f = c.self.inside in
    let before = g.T.Turns.tells c.args.door.now in
    let after = g.T.Turns.tells c.lacking.new.door in
    let t = stock_of f.names c.lend.new.self f.pool in
    answered_from g.N.Naming.start.is_visible before after t c.args.self.now t c.args.request c.lacking.result ((λ i. stock_of f.names (c.in-Err.ensures.kept i) f.pool) ∙ c.self.view_is) (c.lacking.ensures.answered g.N.Naming.start.is_visible f.names f.pool)

pub returns-clause-answered : goal.returns-clause-answered
returns-clause-answered g c =
    let f = c.self.inside in
    let e = c.serve_here-held in
    let before = g.T.Turns.tells c.args.door.now in
    let after = g.T.Turns.tells e.new.door in
    answered_from g.N.Naming.start.is_visible before after (stock_of f.names f.home f.pool) c.args.self.now (stock_of e.new.names c.put_back.new.self e.new.pool) c.args.request e.result.1 c.self.view_is
    (on_file g.N.Naming.start.is_visible before after f.names e.new.names f.pool e.new.pool c.args.request e.result.1 f.home c.lend.new.self c.put_back.new.self c.args.file c.in-Ok.held e.result.0 c.requires.kind c.in-Ok.ensures.file c.in-Ok.ensures.number c.in-Ok.ensures.lent c.put_back.ensures e.ensures.served)

pub invariant_of-self : goal.invariant_of-self
invariant_of-self g c =
    let h = c.self.invariant in
    let f = c.self.inside in
    record { formed = h.formed; its = h.its; numbers = h.numbers; hand = c.lacking.ensures.pool f.pool h.hand; few = h.few; here = subst (AreHere f.names) (sym c.in-Err.ensures.kept) h.here }

pub invariant_of-self-2 : goal.invariant_of-self-2
invariant_of-self-2 g c =
    let h = c.self.invariant in
    let f = c.self.inside in
    let e = c.serve_here-held in
    let before = g.T.Turns.tells c.args.door.now in
    let after = g.T.Turns.tells e.new.door in
    record {
      formed = h.formed;
      its = h.its;
      numbers = h.numbers;
      hand = e.ensures.pool;
      few = e.ensures.few;
      here = here_answered g.N.Naming.start.is_visible before after (stock_of f.names f.home f.pool) (stock_of e.new.names c.put_back.new.self e.new.pool) h.here c.args.request e.result.1
          (on_file g.N.Naming.start.is_visible before after f.names e.new.names f.pool e.new.pool c.args.request e.result.1 f.home c.lend.new.self c.put_back.new.self c.args.file c.in-Ok.held e.result.0 c.requires.kind c.in-Ok.ensures.file c.in-Ok.ensures.number c.in-Ok.ensures.lent c.put_back.ensures e.ensures.served);
    }

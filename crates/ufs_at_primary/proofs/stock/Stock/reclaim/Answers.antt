use Rattle.std.proofs.Common.{sym, subst, ◌∙◌, ◌+◌, length, arith}
use Rattle.ufs_at_primary.specs.Room.{IsTidied}
use Rattle.ufs_at_primary.specs.Stock.{AreHere, StockState, stock_of}
use Rattle.ufs_at_primary.proofs.AtHome.{here_tidied}
use Rattle.ufs_at_primary.proofs.Rooms.{files_tidied, tidied_still}
use Rattle.ufs_at_primary.proofs.Trials.{away_still}
use Rattle.ufs_at_primary.proofs.Raised.{raises_run, raises_still}
use Rattle.ufs_at_primary.proofs.stock.Stock.reclaim.Goals as goal

pub returns-in-Some-clause-made : goal.returns-in-Some-clause-made
returns-in-Some-clause-made g c = tidied_still 0 g.N.Naming.start.is_visible (g.T.Turns.tells c.args.door.now) c.args.self.now

pub returns-in-Err-clause-made : goal.returns-in-Err-clause-made
returns-in-Err-clause-made g c =
    let f = c.self.inside in
    let tells = g.T.Turns.tells c.args.door.now in
    let t = stock_of f.names c.lend_all.new.self f.pool in
    subst (λ (s : StockState). IsTidied 0 g.N.Naming.start.is_visible tells tells s t) ((λ i. stock_of f.names (c.in-Err.ensures.kept i) f.pool) ∙ c.self.view_is) (tidied_still 0 g.N.Naming.start.is_visible tells t)

pub tidy_lent-requires-clause-pool : goal.tidy_lent-requires-clause-pool
tidy_lent-requires-clause-pool g c = (c.self.inside.pool, c.self.invariant.hand)

pub tidy_lent-requires-clause-all : goal.tidy_lent-requires-clause-all
tidy_lent-requires-clause-all g c =
    let lent = c.in-Ok.ensures.lent in
    let away = lent.away in
    record { live = λ f is. c.in-Ok.ensures.all f (c.self.invariant.here f is (c.no_file_is_out.ensures c.self.inside.home.owners f c.in_default.ensures)); once = away.once }

pub tidy_lent-requires-clause-low : goal.tidy_lent-requires-clause-low
tidy_lent-requires-clause-low g c = c.in-Ok.ensures.low

pub put_back_all-requires : goal.put_back_all-requires
put_back_all-requires g c =
    let done = c.tidy_lent.ensures.tidied in
    let lent = c.in-Ok.ensures.lent in
    away_still c.lend_all.new.self.places c.in-Ok.files.items c.tidy_lent.new.files.items done.numbers lent.away

pub returns-clause-made : goal.returns-clause-made
returns-clause-made g c =
    let f = c.self.inside in
    let e = c.tidy_lent in
    let before = g.T.Turns.tells c.args.door.now in
    let after = g.T.Turns.tells e.new.door in
    let lent = c.in-Ok.ensures.lent in
    let away = lent.away in
    subst (λ (s : StockState). IsTidied 0 g.N.Naming.start.is_visible before after s (stock_of e.new.names c.put_back_all.new.self f.pool)) c.self.view_is
    (files_tidied g.N.Naming.start.is_visible before after f.names e.new.names f.pool f.home c.lend_all.new.self c.put_back_all.new.self c.in-Ok.files.items e.new.files.items lent
    (record { live = λ n is. c.in-Ok.ensures.all n (c.self.invariant.here n is (c.no_file_is_out.ensures f.home.owners n c.in_default.ensures)); once = away.once }) c.in-Ok.ensures.rest c.put_back_all.ensures e.ensures.tidied)

pub invariant_of-self : goal.invariant_of-self
invariant_of-self g c =
    let h = c.self.invariant in
    let f = c.self.inside in
    record { formed = h.formed; its = h.its; numbers = h.numbers; hand = h.hand; few = h.few; here = subst (AreHere f.names) (sym c.in-Err.ensures.kept) h.here }

pub invariant_of-self-2 : goal.invariant_of-self-2
invariant_of-self-2 g c =
    let h = c.self.invariant in
    let f = c.self.inside in
    let e = c.tidy_lent in
    let before = g.T.Turns.tells c.args.door.now in
    let after = g.T.Turns.tells e.new.door in
    let lent = c.in-Ok.ensures.lent in
    let away = lent.away in
    record {
      formed = h.formed;
      its = h.its;
      numbers = h.numbers;
      hand = e.ensures.pool f.pool h.hand;
      few = h.few;
      here = here_tidied 0 g.N.Naming.start.is_visible before after (stock_of f.names f.home f.pool) (stock_of e.new.names c.put_back_all.new.self f.pool)
          (files_tidied g.N.Naming.start.is_visible before after f.names e.new.names f.pool f.home c.lend_all.new.self c.put_back_all.new.self c.in-Ok.files.items e.new.files.items lent
          (record { live = λ n is. c.in-Ok.ensures.all n (h.here n is (c.no_file_is_out.ensures f.home.owners n c.in_default.ensures)); once = away.once }) c.in-Ok.ensures.rest c.put_back_all.ensures e.ensures.tidied) h.here;
    }

pub returns-in-Some-clause-raised : goal.returns-in-Some-clause-raised
returns-in-Some-clause-raised g c = raises_still (g.T.Turns.tells c.args.door.now) (g.N.Naming.start.geometry.inodes + 2)

pub returns-in-Err-clause-raised : goal.returns-in-Err-clause-raised
returns-in-Err-clause-raised g c = raises_still (g.T.Turns.tells c.args.door.now) (g.N.Naming.start.geometry.inodes + 2)

pub returns-clause-raised : goal.returns-clause-raised
returns-clause-raised g c =
    let done = c.tidy_lent.ensures.tidied in
    let few = c.tidy_lent.ensures.few in
    let most = 2 + length c.in-Ok.files.items in
    raises_run (g.T.Turns.tells c.args.door.now) (g.T.Turns.tells c.tidy_lent.new.door) done.fault most most (g.N.Naming.start.geometry.inodes + 2) (omega (arith, few)) (omega (arith, few)) done.ran

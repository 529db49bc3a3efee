use Rattle.std.proofs.Common.{◌≢◌, ◌+◌, inl, length, refl, subst, ◌∙◌, arith}
use Rattle.ufs_owner.specs.Owners.{owner_at}
use Rattle.ufs_owner.specs.declared.owner.Owner.TheVariants as owner
use Rattle.ufs_at_primary.specs.Served.{OfAll}
use Rattle.ufs_at_primary.specs.Stock.{StockState, stock_of}
use Rattle.ufs_at_primary.proofs.AtHome.{here_answered}
use Rattle.ufs_at_primary.proofs.Outcomes.{answered_from, as_found, on_all}
use Rattle.ufs_at_primary.proofs.Trials.{away_still, same_still}
use Rattle.ufs_told.specs.Numbers.{most_raised}
use Rattle.ufs_at_primary.proofs.Raised.{raises_rests, raises_still, reply_raises}
use Rattle.ufs_at_primary.proofs.stock.Stock.serve_all.Goals as goal

pub returns-in-Some-clause-tried : goal.returns-in-Some-clause-tried
returns-in-Some-clause-tried g c = (same_still c.args.request, record { out = subst (λ (s : StockState). owner_at s.home.owners c.in-Some.file ≢ owner.Primary) c.self.view_is c.in-Some.ensures; wants = OfAll c.requires.sync }, refl, refl)

pub lacking-requires-clause-pool : goal.lacking-requires-clause-pool
lacking-requires-clause-pool g c = (c.self.inside.pool, c.self.invariant.hand)

pub lacking-requires-clause-opened : goal.lacking-requires-clause-opened
lacking-requires-clause-opened g c = λ asks. inl c.requires.sync

pub returns-in-Err-clause-tried : goal.returns-in-Err-clause-tried
returns-in-Err-clause-tried g c =
    let f = c.self.inside in
    let before = g.T.Turns.tells c.args.door.now in
    let after = g.T.Turns.tells c.lacking.new.door in
    let t = stock_of f.names c.lend_all.new.self f.pool in
    as_found g.N.Naming.start.is_visible before after c.args.self.now t c.args.request c.lacking.result
    (answered_from g.N.Naming.start.is_visible before after t c.args.self.now t c.args.request c.lacking.result ((λ i. stock_of f.names (c.in-Err.ensures.kept i) f.pool) ∙ c.self.view_is) (c.lacking.ensures.answered g.N.Naming.start.is_visible f.names f.pool))

pub sync_lent-answer-requires-clause-pool : goal.sync_lent-answer-requires-clause-pool
sync_lent-answer-requires-clause-pool g c = (c.self.inside.pool, c.self.invariant.hand)

pub sync_lent-answer-requires-clause-all : goal.sync_lent-answer-requires-clause-all
sync_lent-answer-requires-clause-all g c =
    let lent = c.in-Ok.ensures.lent in
    let away = lent.away in
    record { live = λ f is. c.in-Ok.ensures.all f (c.self.invariant.here f is (c.no_file_is_out.ensures c.self.inside.home.owners f c.in_default.ensures)); once = away.once }

pub sync_lent-answer-requires-clause-low : goal.sync_lent-answer-requires-clause-low
sync_lent-answer-requires-clause-low g c = c.in-Ok.ensures.low

pub put_back_all-requires : goal.put_back_all-requires
put_back_all-requires g c =
    let s = c.sync_lent-answer.ensures.served in
    let done = s.2 in
    let lent = c.in-Ok.ensures.lent in
    away_still c.lend_all.new.self.places c.in-Ok.files.items c.sync_lent-answer.new.files.items done.numbers lent.away

pub returns-clause-tried : goal.returns-clause-tried
returns-clause-tried g c =
    let f = c.self.inside in
    let e = c.sync_lent-answer in
    let before = g.T.Turns.tells c.args.door.now in
    let after = g.T.Turns.tells e.new.door in
    let lent = c.in-Ok.ensures.lent in
    let away = lent.away in
    as_found g.N.Naming.start.is_visible before after c.args.self.now (stock_of e.new.names c.put_back_all.new.self f.pool) c.args.request e.result
    (answered_from g.N.Naming.start.is_visible before after (stock_of f.names f.home f.pool) c.args.self.now (stock_of e.new.names c.put_back_all.new.self f.pool) c.args.request e.result c.self.view_is
    (on_all g.N.Naming.start.is_visible before after f.names e.new.names f.pool f.pool c.args.request e.result f.home c.lend_all.new.self c.put_back_all.new.self c.in-Ok.files.items e.new.files.items c.requires.sync lent
    (record { live = λ n is. c.in-Ok.ensures.all n (c.self.invariant.here n is (c.no_file_is_out.ensures f.home.owners n c.in_default.ensures)); once = away.once }) c.in-Ok.ensures.rest c.put_back_all.ensures refl e.ensures.served))

pub invariant_of-self-2 : goal.invariant_of-self-2
invariant_of-self-2 g c =
    let h = c.self.invariant in
    let f = c.self.inside in
    let e = c.sync_lent-answer in
    let before = g.T.Turns.tells c.args.door.now in
    let after = g.T.Turns.tells e.new.door in
    let lent = c.in-Ok.ensures.lent in
    let away = lent.away in
    record {
      formed = h.formed;
      its = h.its;
      numbers = h.numbers;
      hand = e.ensures.pool f.pool h.hand;
      few = h.few;
      here = here_answered g.N.Naming.start.is_visible before after (stock_of f.names f.home f.pool) (stock_of e.new.names c.put_back_all.new.self f.pool) h.here c.args.request e.result
          (on_all g.N.Naming.start.is_visible before after f.names e.new.names f.pool f.pool c.args.request e.result f.home c.lend_all.new.self c.put_back_all.new.self c.in-Ok.files.items e.new.files.items c.requires.sync lent
          (record { live = λ n is. c.in-Ok.ensures.all n (h.here n is (c.no_file_is_out.ensures f.home.owners n c.in_default.ensures)); once = away.once }) c.in-Ok.ensures.rest c.put_back_all.ensures refl e.ensures.served);
    }

pub returns-in-Some-clause-raised : goal.returns-in-Some-clause-raised
returns-in-Some-clause-raised g c = raises_still (g.T.Turns.tells c.args.door.now) (most_raised g.N.Naming.start.geometry)

pub returns-in-Err-clause-raised : goal.returns-in-Err-clause-raised
returns-in-Err-clause-raised g c = raises_rests (g.T.Turns.tells c.args.door.now) (g.T.Turns.tells c.lacking.new.door) (most_raised g.N.Naming.start.geometry) c.lacking.ensures.rests

pub returns-clause-raised : goal.returns-clause-raised
returns-clause-raised g c =
    let s = c.sync_lent-answer.ensures.served in
    let done = s.2 in
    let few = c.sync_lent-answer.ensures.few in
    reply_raises (g.T.Turns.tells c.args.door.now) (g.T.Turns.tells c.sync_lent-answer.new.door) (1 + length c.in-Ok.files.items) (most_raised g.N.Naming.start.geometry) s.0.entry.reply (omega (arith, few)) done.halts

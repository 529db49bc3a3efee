use Rattle.std.proofs.Common.{◌-◌, ap, ◌∙◌, arith}
use Rattle.ufs_model.specs.declared.data.Actor.TheVariants as actor
use Rattle.ufs_rounds.specs.View.{rings_in}
use Rattle.ufs_rounds.proofs.Lent.{worker_goes}
use Rattle.ufs_rounds.proofs.Places.{same_rings}
use Rattle.ufs_rounds.proofs.turning.turn_of_worker.Goals as goal

pub poll_worker-requires-clause-mine : goal.poll_worker-requires-clause-mine
poll_worker-requires-clause-mine g c =
    let there = c.requires.there.0 in
    let is = c.from.ensures in
    c.turn_of_server.ensures.turn.0 ∙ ap actor.Worker (omega (arith, there, is))

pub returns-clause-turn : goal.returns-clause-turn
returns-clause-turn g c =
    let r = c.turn_of_server.ensures.rings in
    let there = c.requires.there.0 in
    let is = c.from.ensures in
    let t = g.T.Turns in
    record {
      lent = rings_in c.turn_of_server.new.self;
      quiet = (λ i. (r.1 i).items, same_rings _ _ r.0, same_rings _ _ r.2);
      mine = c.turn_of_server.ensures.turn.0;
      place = c.from.result - 1;
      behind = omega (arith, there, is);
      goes = worker_goes rings_in g.N.Naming.start.is_visible (t.tells c.args.door.now) (t.tells c.poll_worker.new.door) c.args.baton.now c.poll_worker.new.baton c.turn_of_server.new.self c.poll_worker.new.post c.poll_worker.result c.args.workers.now.items c.poll_worker.new.workers.items (c.from.result - 1)
          c.poll_worker.ensures.turn;
      telling = c.poll_worker.ensures.telling;
      store = c.poll_worker.ensures.store;
      seen = c.poll_worker.ensures.seen;
    }

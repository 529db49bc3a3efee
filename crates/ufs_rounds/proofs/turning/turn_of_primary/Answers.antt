use Rattle.ufs_rounds.specs.View.{rings_in}
use Rattle.ufs_rounds.proofs.Lent.{primary_turn}
use Rattle.ufs_rounds.proofs.Places.{same_rings}
use Rattle.ufs_rounds.proofs.turning.turn_of_primary.Goals as goal

pub poll-requires : goal.poll-requires
poll-requires g c = record { mine = c.turn_of_server.ensures.turn.0 }

pub returns : goal.returns
returns g c =
    let r = c.turn_of_server.ensures.rings in
    let t = g.T.Turns in
    record {
      turn = record {
        lent = rings_in c.turn_of_server.new.self;
        quiet = (λ i. (r.1 i).items, same_rings _ _ r.0, same_rings _ _ r.2);
        mine = c.turn_of_server.ensures.turn.0;
        goes = primary_turn rings_in g.N.Naming.start (t.tells c.args.door.now) (t.tells c.poll.new.door) c.args.baton.now c.poll.new.baton c.args.primary.now c.poll.new.self c.turn_of_server.new.self c.poll.new.post c.poll.result c.poll.ensures.turn;
        telling = c.poll.ensures.telling;
        store = c.poll.ensures.store;
        seen = c.poll.ensures.seen;
        raised = c.poll.ensures.raised;
      };
    }

use Rattle.std.proofs.Common.{sym, ◌∙◌}
use Rattle.ufs_rounds.specs.View.{rings_in}
use Rattle.ufs_rounds.proofs.Lent.{client_goes}
use Rattle.ufs_rounds.proofs.Places.{same_rings}
use Rattle.ufs_rounds.proofs.turning.turn_of_client.Goals as goal

pub poll_client-requires-clause-mine : goal.poll_client-requires-clause-mine
poll_client-requires-clause-mine g c = c.turn_of_client.ensures.turn.0 ∙ sym c.from.ensures

pub returns-clause-turn : goal.returns-clause-turn
returns-clause-turn g c =
    let r = c.turn_of_client.ensures.rings in
    record {
      lent = rings_in c.turn_of_client.new.self;
      quiet = (λ i. (r.1 i).items, same_rings _ _ r.0, same_rings _ _ r.2);
      mine = c.turn_of_client.ensures.turn.0;
      goes = client_goes rings_in c.args.baton.now c.poll_client.new.baton c.turn_of_client.new.self c.poll_client.new.post c.poll_client.result c.args.clients.now.items c.poll_client.new.clients.items c.from.result c.args.client c.from.ensures c.poll_client.ensures.turn;
      numbers = c.poll_client.ensures.numbers;
      seen = c.poll_client.ensures.seen;
    }

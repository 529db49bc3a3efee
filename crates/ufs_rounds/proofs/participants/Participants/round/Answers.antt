use Rattle.ufs_rounds.specs.View.{global_of}
use Rattle.ufs_rounds.proofs.Making.{round_made}
use Rattle.ufs_rounds.proofs.participants.Participants.round.Goals as goal

pub returns-clause-round : goal.returns-clause-round
returns-clause-round g c =
    let t = g.T.Turns in
    round_made g.N.Naming.start (global_of c.args.self.now (t.tells c.args.door.now)) (global_of c.turns_of_workers.new.self (t.tells c.turns_of_workers.new.door)) (global_of c.turn.new.self (t.tells c.turn.new.door))
    (global_of c.turns_of_clients.new.self (t.tells c.turns_of_clients.new.door)) c.new-round.result c.turns_of_workers.new.round c.note.new.self c.turns_of_clients.new.round c.turn.result c.turns_of_workers.ensures.turns c.turn.ensures.turn c.note.ensures.moved
    c.note.ensures.lack c.turns_of_clients.ensures.turns c.new-round.ensures.moved c.new-round.ensures.lack

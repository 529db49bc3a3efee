use Rattle.std.proofs.Common.{◌+◌, ◌∙◌, arith, refl}
use Rattle.ufs_model.specs.declared.data.Actor.TheVariants as actor
use Rattle.ufs_rounds.specs.Rest.{WorkersHad}
use Rattle.ufs_rounds.specs.View.{global_of}
use Rattle.ufs_rounds.proofs.Asking.{nobody_same}
use Rattle.ufs_rounds.proofs.Making.{no_turns, turn_more, worker_still, workers_next}
use Rattle.ufs_rounds.proofs.participants.Participants.turns_of_workers.Goals as goal

pub loop-place-init : goal.loop-place-init
loop-place-init g c = record {
  turns = no_turns g.N.Naming.start (global_of c.args.self.now (g.T.Turns.tells c.args.door.now)) (WorkersHad 0) c.args.round.now (λ worker low high. absurd (omega (arith, low, high)));
  scripts = refl;
}

pub loop-place-preserved : goal.loop-place-preserved
loop-place-preserved g c =
    let l = c.loop-place in
    let k = g.N.Naming.start in
    let s = global_of c.args.self.now (g.T.Turns.tells c.args.door.now) in
    let t = global_of l.self (g.T.Turns.tells l.door) in
    let u = global_of c.turn.new.self (g.T.Turns.tells c.turn.new.door) in
    record {
      turns = turn_more k s (WorkersHad l.place) (WorkersHad (l.place + 1)) t u c.args.round.now l.round c.note.new.self (actor.Worker (l.place + 1)) c.turn.result l.invariant.turns tt c.turn.ensures.turn
          (nobody_same t.clients u.clients (worker_still k t u (l.place + 1) c.turn.result c.turn.ensures.turn)) c.note.ensures.moved c.note.ensures.lack (λ steps had. workers_next l.place (l.place + 1) c.turn.result steps refl had);
      scripts = c.turn.ensures.scripts ∙ l.invariant.scripts;
    }

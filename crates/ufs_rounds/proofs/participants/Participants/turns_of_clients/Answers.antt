use Rattle.std.proofs.Common.{◌≡◌, ◌<◌, ◌+◌, length, ◌∙◌, IsSome, Some, arith, refl, subst, sym}
use Rattle.ufs_caller.specs.Callers.{Caller}
use Rattle.ufs_caller.proofs.Places.{some_is, some_same}
use Rattle.ufs_model.specs.declared.data.Actor.TheVariants as actor
use Rattle.ufs_msg.proofs.Places.{at_place}
use Rattle.ufs_rounds.specs.Rest.{ClientsHad}
use Rattle.ufs_rounds.specs.View.{global_of}
use Rattle.ufs_rounds.proofs.Asking.{client_asked}
use Rattle.ufs_rounds.proofs.Making.{clients_next, clients_skip, no_turns, of_client, turn_more, turns_so}
use Rattle.ufs_rounds.proofs.participants.Participants.turns_of_clients.Goals as goal

pub loop-place-init : goal.loop-place-init
loop-place-init g c = record {
  turns = no_turns g.N.Naming.start (global_of c.args.self.now (g.T.Turns.tells c.args.door.now)) (ClientsHad 0 c.args.self.now.clients.items) c.args.round.now (λ place d low at some. absurd (omega (arith, low)));
  scripts = refl;
}

-- It has a request under way.
pub loop-place-preserved : goal.loop-place-preserved
loop-place-preserved g c =
    let l = c.loop-place in
    let k = g.N.Naming.start in
    let s = global_of c.args.self.now (g.T.Turns.tells c.args.door.now) in
    let t = global_of l.self (g.T.Turns.tells l.door) in
    let u = global_of c.turn.new.self (g.T.Turns.tells c.turn.new.door) in
    let one = c.index.result.now in
    let low : l.place < length l.self.clients.items = let below = c.loop-place-test.true in let long = c.len-place-end.ensures in let every = c.args.self.now.every_client in let still = l.self.every_client in omega (arith, below, long, every, still) in
    let stands = at_place l.self.clients.items l.place one low c.index.ensures in
    let some : IsSome one.errand = sym c.is_asking.ensures ∙ c.if-not-is_asking.false in
    let e = some_is one.errand some in
    let of = of_client k t u l.place c.turn.result c.turn.ensures.turn in
    record {
      turns = turn_more k s (ClientsHad l.place t.clients) (ClientsHad (l.place + 1) u.clients) t u c.args.round.now l.round c.note.new.self (actor.Client l.place) c.turn.result l.invariant.turns (λ x at. subst (λ (y : Caller). IsSome y.errand) (some_same one x (sym stands ∙ at)) some) c.turn.ensures.turn
          (client_asked l.place t.clients u.clients t.rings u.rings of.said of.turn e.0 (λ x at. subst (λ (y : Caller). y.errand ≡ Some e.0) (some_same one x (sym stands ∙ at)) e.1)) c.note.ensures.moved c.note.ensures.lack
          (λ steps had. clients_next l.place l.place t.clients u.clients t.rings u.rings of.said c.turn.result steps refl of.turn had);
      scripts = c.turn.ensures.scripts ∙ l.invariant.scripts;
    }

-- It has none.
pub loop-place-preserved-then-not-is_asking : goal.loop-place-preserved-then-not-is_asking
loop-place-preserved-then-not-is_asking g c =
    let l = c.loop-place in
    let k = g.N.Naming.start in
    let s = global_of c.args.self.now (g.T.Turns.tells c.args.door.now) in
    let t = global_of l.self (g.T.Turns.tells l.door) in
    let one = c.index.result.now in
    let low : l.place < length l.self.clients.items = let below = c.loop-place-test.true in let long = c.len-place-end.ensures in let every = c.args.self.now.every_client in let still = l.self.every_client in omega (arith, below, long, every, still) in
    let stands = at_place l.self.clients.items l.place one low c.index.ensures in
    record {
      turns = turns_so k s (ClientsHad l.place t.clients) (ClientsHad (l.place + 1) t.clients) t c.args.round.now l.round l.invariant.turns
          (λ steps had. clients_skip l.place one t.clients steps stands (sym c.is_asking.ensures ∙ c.if-not-is_asking.true) had);
      scripts = l.invariant.scripts;
    }

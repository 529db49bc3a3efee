use Rattle.std.proofs.Common.{◌≡◌, ℕ, suc, ◌+◌, ◌∙◌, [], ap, arith, refl, take}
use Rattle.std.proofs.Math.Seq.{take-suc}
use Rattle.ufs_rounds.specs.View.{global_of}
use Rattle.ufs_rounds.proofs.Going.{next_turn}
use Rattle.ufs_rounds.proofs.participants.Participants.turns_of.Goals as goal

pub loop-who-init : goal.loop-who-init
loop-who-init g c = record { turns = record { turns = []; are = refl; steps = refl }; scripts = refl }

pub loop-who-preserved : goal.loop-who-preserved
loop-who-preserved g c =
    let l = c.loop-who in
    let k = g.N.Naming.start in
    let t = g.T.Turns in
    let all = c.args.schedule.now in
    let i = l.who-index in
    let first = global_of c.args.self.now (t.tells c.args.door.now) in
    let was = global_of l.self (t.tells l.door) in
    let now = global_of c.turn.new.self (t.tells c.turn.new.door) in
    let next : i + 1 ≡ suc i = omega arith in
    record {
      turns = next_turn k first was now (take i all) (take (i + 1) all) _ c.turn.result l.invariant.turns c.turn.ensures.turn (ap (λ (n : ℕ). take n all) next ∙ take-suc all i _ c.loop-who-test.true);
      scripts = c.turn.ensures.scripts ∙ l.invariant.scripts;
    }

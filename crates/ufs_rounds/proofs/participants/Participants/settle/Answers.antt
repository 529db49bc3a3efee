use Rattle.std.proofs.Common.{◌≤◌, ◌∙◌, ℕ, true, None, Err, ap, refl, subst, sym}
use Rattle.ufs_rounds.specs.Moves.{unrested}
use Rattle.ufs_rounds.specs.Rest.{HasSettled, rounds_for}
use Rattle.ufs_rounds.specs.View.{global_of}
use Rattle.ufs_rounds.specs.declared.rounds.Unfinished.{Unfinished}
use Rattle.ufs_rounds.proofs.Settled.{both_quiet, going_on, next_round, none_made, settled_asked, settled_long, settled_quiet, settled_well}
use Rattle.ufs_rounds.proofs.participants.Participants.settle.Goals as goal

pub loop-made-init : goal.loop-made-init
loop-made-init g c =
    let k = g.N.Naming.start in
    let t = g.T.Turns in
    let first = global_of c.args.self.now (t.tells c.args.door.now) in
    let then = global_of c.call_back-lack.new.self (t.tells c.call_back-lack.new.door) in
    record { made = none_made k first then c.call_back-lack.result c.call_back-lack.ensures.called (record { moved = true; lack = None }) refl; scripts = refl }

pub loop-made-preserved : goal.loop-made-preserved
loop-made-preserved g c =
    let l = c.loop-made in
    let k = g.N.Naming.start in
    let t = g.T.Turns in
    let then = global_of c.call_back-lack.new.self (t.tells c.call_back-lack.new.door) in
    let was = global_of l.self (t.tells l.door) in
    let now = global_of c.round-last.new.self (t.tells c.round-last.new.door) in
    record {
      made = next_round k c.call_back-lack.result l._made then was now l.before l.last c.round-last.result l.invariant.made c.round-last.ensures.round (going_on l.before l.last.moved (sym c.goes_on.ensures ∙ c.if-not-goes_on.false));
      scripts = c.round-last.ensures.scripts ∙ l.invariant.scripts;
    }

pub returns-then-is_at_rest-clause-asked : goal.returns-then-is_at_rest-clause-asked
returns-then-is_at_rest-clause-asked g c =
    let l = c.loop-made in
    let k = g.N.Naming.start in
    let t = g.T.Turns in
    let first = global_of c.args.self.now (t.tells c.args.door.now) in
    let then = global_of c.call_back-lack.new.self (t.tells c.call_back-lack.new.door) in
    settled_asked k first then c.call_back-lack.result c.call_back-lack.ensures.called l._made (global_of l.self (t.tells l.door)) l.before l.last l.invariant.made c.call_back-lack.ensures.clients

pub returns-then-is_at_rest-clause-settled : goal.returns-then-is_at_rest-clause-settled
returns-then-is_at_rest-clause-settled g c =
    let l = c.loop-made in
    let k = g.N.Naming.start in
    let t = g.T.Turns in
    let first = global_of c.args.self.now (t.tells c.args.door.now) in
    let then = global_of c.call_back-lack.new.self (t.tells c.call_back-lack.new.door) in
    settled_well k first then c.call_back-lack.result c.call_back-lack.ensures.called l._made (global_of l.self (t.tells l.door)) l.before l.last l.invariant.made

pub returns-then-not-goes_on-clause-asked : goal.returns-then-not-goes_on-clause-asked
returns-then-not-goes_on-clause-asked g c =
    let l = c.loop-made in
    let k = g.N.Naming.start in
    let t = g.T.Turns in
    let first = global_of c.args.self.now (t.tells c.args.door.now) in
    let then = global_of c.call_back-lack.new.self (t.tells c.call_back-lack.new.door) in
    settled_asked k first then c.call_back-lack.result c.call_back-lack.ensures.called l._made (global_of l.self (t.tells l.door)) l.before l.last l.invariant.made c.call_back-lack.ensures.clients

pub returns-then-not-goes_on-clause-settled : goal.returns-then-not-goes_on-clause-settled
returns-then-not-goes_on-clause-settled g c =
    let l = c.loop-made in
    let k = g.N.Naming.start in
    let t = g.T.Turns in
    let first = global_of c.args.self.now (t.tells c.args.door.now) in
    let then = global_of c.call_back-lack.new.self (t.tells c.call_back-lack.new.door) in
    let now = global_of l.self (t.tells l.door) in
    let quiet = both_quiet l.before l.last.moved (sym c.goes_on.ensures ∙ c.if-not-goes_on.true) in
    subst (λ (why : Unfinished). HasSettled k first now (Err why)) (sym (c.why.ensures ∙ ap unrested c.first_of.ensures))
    (settled_quiet k first then c.call_back-lack.result c.call_back-lack.ensures.called l._made now l.before l.last l.invariant.made quiet.0 quiet.1)

pub returns-then-is_at_rest-2-clause-asked : goal.returns-then-is_at_rest-2-clause-asked
returns-then-is_at_rest-2-clause-asked g c =
    let l = c.loop-made in
    let k = g.N.Naming.start in
    let t = g.T.Turns in
    let first = global_of c.args.self.now (t.tells c.args.door.now) in
    let then = global_of c.call_back-lack.new.self (t.tells c.call_back-lack.new.door) in
    settled_asked k first then c.call_back-lack.result c.call_back-lack.ensures.called l._made (global_of l.self (t.tells l.door)) l.before l.last l.invariant.made c.call_back-lack.ensures.clients

pub returns-then-is_at_rest-2-clause-settled : goal.returns-then-is_at_rest-2-clause-settled
returns-then-is_at_rest-2-clause-settled g c =
    let l = c.loop-made in
    let k = g.N.Naming.start in
    let t = g.T.Turns in
    let first = global_of c.args.self.now (t.tells c.args.door.now) in
    let then = global_of c.call_back-lack.new.self (t.tells c.call_back-lack.new.door) in
    settled_well k first then c.call_back-lack.result c.call_back-lack.ensures.called l._made (global_of l.self (t.tells l.door)) l.before l.last l.invariant.made

pub returns-else-is_at_rest-2-clause-asked : goal.returns-else-is_at_rest-2-clause-asked
returns-else-is_at_rest-2-clause-asked g c =
    let l = c.loop-made in
    let k = g.N.Naming.start in
    let t = g.T.Turns in
    let first = global_of c.args.self.now (t.tells c.args.door.now) in
    let then = global_of c.call_back-lack.new.self (t.tells c.call_back-lack.new.door) in
    settled_asked k first then c.call_back-lack.result c.call_back-lack.ensures.called l._made (global_of l.self (t.tells l.door)) l.before l.last l.invariant.made c.call_back-lack.ensures.clients

pub returns-else-is_at_rest-2-clause-settled : goal.returns-else-is_at_rest-2-clause-settled
returns-else-is_at_rest-2-clause-settled g c =
    let l = c.loop-made in
    let k = g.N.Naming.start in
    let t = g.T.Turns in
    let first = global_of c.args.self.now (t.tells c.args.door.now) in
    let then = global_of c.call_back-lack.new.self (t.tells c.call_back-lack.new.door) in
    settled_long k first then c.call_back-lack.result c.call_back-lack.ensures.called l._made (global_of l.self (t.tells l.door)) l.before l.last l.invariant.made
    (subst (λ (n : ℕ). n ≤ l._made) (c.rounds_at_most-rounds.ensures ∙ ap rounds_for c.count_out.ensures) c.loop-made-test.false)

use Rattle.std.proofs.Common.{[], Result, Ok, Err, ◌∙◌, ap, refl, subst, sym}
use Rattle.std.proofs.lemmas.Result.{err_from_is_err_and}
use Rattle.std.specs.Prelude.{OnErr, OnOk}
use Rattle.ufs_rounds.specs.Rest.{GoesOn, IsAtRest, IsItsTime, IsOverAt}
use Rattle.ufs_rounds.specs.View.{global_of}
use Rattle.ufs_rounds.specs.declared.rounds.Unfinished.{Unfinished}
use Rattle.ufs_rounds.proofs.Asking.{but_then, same_asked}
use Rattle.ufs_rounds.proofs.Going.{before_still, but_turn, done_over, done_rest, ends_unrested, ends_well, fewer_left, leads_settled, leads_then, turn_leads}
use Rattle.ufs_rounds.proofs.participants.Participants.serve_client.Goals as goal

pub loop-client-init : goal.loop-client-init
loop-client-init g c = record { rest = c.requires.rest; others = λ place d other at. (d, at, same_asked d); goes = ([], refl); scripts = refl }

pub returns-then-says_done : goal.returns-then-says_done
returns-then-says_done g c =
    let k = g.N.Naming.start in
    let t = g.T.Turns in
    let first = global_of c.args.self.now (t.tells c.args.door.now) in
    let was = global_of c.loop-client.self (t.tells c.loop-client.door) in
    let now = global_of c.turn.new.self (t.tells c.turn.new.door) in
    let of = c.turn.ensures.turn in
    let time : IsItsTime c.args.client was = record { rest = c.loop-client.invariant.rest; before = before_still c.args.client first.clients was.clients c.loop-client.invariant.others c.requires.before } in
    let says = sym c.says_done.ensures ∙ c.if-says_done.true in
    record {
      rest = done_rest k was now c.args.client c.turn.result of says c.loop-client.invariant.rest;
      under_way = tt;
      over = done_over k was now c.args.client c.turn.result of says;
      others = but_turn k was now c.args.client c.turn.result of first.clients c.loop-client.invariant.others;
      goes = ends_well k first now (leads_then k first was now c.loop-client.invariant.goes (turn_leads k was now c.args.client c.turn.result of time));
      scripts = c.turn.ensures.scripts ∙ c.loop-client.invariant.scripts;
    }

pub returns-in_err-settle-clause-rest : goal.returns-in_err-settle-clause-rest
returns-in_err-settle-clause-rest g c =
    let p = err_from_is_err_and c.from_residual.result c.from_residual.ensures.1 in
    subst (λ (r : Result (Unit {0}) Unfinished). OnOk r (IsAtRest c.settle.new.self.clients.items c.settle.new.self.primary)) (sym p.1) tt

pub returns-in_err-settle-clause-under_way : goal.returns-in_err-settle-clause-under_way
returns-in_err-settle-clause-under_way g c =
    let p = err_from_is_err_and c.from_residual.result c.from_residual.ensures.1 in
    subst (λ (r : Result (Unit {0}) Unfinished). OnErr r (IsAtRest c.settle.new.self.clients.items c.settle.new.self.primary → ⊥)) (sym p.1) c.in_err-settle.ensures.under_way

pub returns-in_err-settle-clause-over : goal.returns-in_err-settle-clause-over
returns-in_err-settle-clause-over g c =
    let p = err_from_is_err_and c.from_residual.result c.from_residual.ensures.1 in
    subst (λ (r : Result (Unit {0}) Unfinished). OnOk r (IsOverAt c.args.client c.settle.new.self.clients.items)) (sym p.1) tt

pub returns-in_err-settle-clause-others : goal.returns-in_err-settle-clause-others
returns-in_err-settle-clause-others g c =
    let k = g.N.Naming.start in
    let t = g.T.Turns in
    let first = global_of c.args.self.now (t.tells c.args.door.now) in
    let was = global_of c.loop-client.self (t.tells c.loop-client.door) in
    let mid = global_of c.turn.new.self (t.tells c.turn.new.door) in
    let now = global_of c.settle.new.self (t.tells c.settle.new.door) in
    let of = c.turn.ensures.turn in
    but_then c.args.client first.clients mid.clients now.clients (but_turn k was mid c.args.client c.turn.result of first.clients c.loop-client.invariant.others) c.settle.ensures.asked

pub returns-in_err-settle-clause-goes : goal.returns-in_err-settle-clause-goes
returns-in_err-settle-clause-goes g c =
    let k = g.N.Naming.start in
    let t = g.T.Turns in
    let first = global_of c.args.self.now (t.tells c.args.door.now) in
    let was = global_of c.loop-client.self (t.tells c.loop-client.door) in
    let mid = global_of c.turn.new.self (t.tells c.turn.new.door) in
    let now = global_of c.settle.new.self (t.tells c.settle.new.door) in
    let of = c.turn.ensures.turn in
    let time : IsItsTime c.args.client was = record { rest = c.loop-client.invariant.rest; before = before_still c.args.client first.clients was.clients c.loop-client.invariant.others c.requires.before } in
    let p = err_from_is_err_and c.from_residual.result c.from_residual.ensures.1 in
    subst (GoesOn k first now) (sym (p.1 ∙ ap Err p.2))
    (ends_unrested k first mid now _ (leads_then k first was mid c.loop-client.invariant.goes (turn_leads k was mid c.args.client c.turn.result of time)) c.in_err-settle.ensures.settled)

pub returns-in_err-settle-clause-scripts : goal.returns-in_err-settle-clause-scripts
returns-in_err-settle-clause-scripts g c = c.settle.ensures.scripts ∙ c.turn.ensures.scripts ∙ c.loop-client.invariant.scripts

pub loop-client-preserved : goal.loop-client-preserved
loop-client-preserved g c =
    let k = g.N.Naming.start in
    let t = g.T.Turns in
    let first = global_of c.args.self.now (t.tells c.args.door.now) in
    let was = global_of c.loop-client.self (t.tells c.loop-client.door) in
    let mid = global_of c.turn.new.self (t.tells c.turn.new.door) in
    let now = global_of c.settle.new.self (t.tells c.settle.new.door) in
    let of = c.turn.ensures.turn in
    let time : IsItsTime c.args.client was = record { rest = c.loop-client.invariant.rest; before = before_still c.args.client first.clients was.clients c.loop-client.invariant.others c.requires.before } in
    record {
      rest = c.in_ok-settle.ensures.rest;
      others = but_then c.args.client first.clients mid.clients now.clients (but_turn k was mid c.args.client c.turn.result of first.clients c.loop-client.invariant.others) c.in_ok-settle.ensures.asked;
      goes = leads_then k first mid now (leads_then k first was mid c.loop-client.invariant.goes (turn_leads k was mid c.args.client c.turn.result of time)) (leads_settled k mid now (Ok tt) c.in_ok-settle.ensures.settled);
      scripts = c.in_ok-settle.ensures.scripts ∙ c.turn.ensures.scripts ∙ c.loop-client.invariant.scripts;
    }

pub loop-client-smaller : goal.loop-client-smaller
loop-client-smaller g c =
    let k = g.N.Naming.start in
    let t = g.T.Turns in
    let was = global_of c.loop-client.self (t.tells c.loop-client.door) in
    let mid = global_of c.turn.new.self (t.tells c.turn.new.door) in
    fewer_left k was mid c.args.client c.turn.result c.turn.ensures.turn c.settle.new.self.clients.items (sym c.says_done.ensures ∙ c.if-says_done.false) c.loop-client.invariant.rest c.in_ok-settle.ensures.asked

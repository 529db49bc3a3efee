use Rattle.std.proofs.Common.{◌≡◌, ◌≤◌, ◌∙◌, [], length, None, Result, Err, ap, arith, refl, subst, sym}
use Rattle.std.proofs.lemmas.Result.{err_from_is_err_and}
use Rattle.std.specs.Prelude.{OnErr, OnOk}
use Rattle.ufs_caller.specs.Callers.{Caller}
use Rattle.ufs_rounds.specs.Rest.{AreOver, GoesOn, IsAtRest}
use Rattle.ufs_rounds.specs.View.{global_of}
use Rattle.ufs_rounds.specs.declared.rounds.Unfinished.{Unfinished}
use Rattle.ufs_rounds.proofs.Going.{ends_well, goes_then, leads_on, leads_then, over_next}
use Rattle.ufs_rounds.proofs.Places.{below_all}
use Rattle.ufs_rounds.proofs.participants.Participants.serve_left.Goals as goal

pub loop-place-init : goal.loop-place-init
loop-place-init g c = record { rest = c.requires.rest; over = λ place d low at. absurd (omega (arith, low)); goes = ([], refl); scripts = refl }

pub loop-place-preserved : goal.loop-place-preserved
loop-place-preserved g c =
    let l = c.loop-place in
    let k = g.N.Naming.start in
    let t = g.T.Turns in
    let first = global_of c.args.self.now (t.tells c.args.door.now) in
    let was = global_of l.self (t.tells l.door) in
    let now = global_of c.serve_client.new.self (t.tells c.serve_client.new.door) in
    let e = c.in_ok-serve_client.ensures in
    record {
      rest = e.rest;
      over = over_next l.place l.place was.clients now.clients refl e.others e.over l.invariant.over;
      goes = leads_then k first was now l.invariant.goes (leads_on k was now e.goes);
      scripts = e.scripts ∙ l.invariant.scripts;
    }

pub returns-in_err-serve_client-clause-rest : goal.returns-in_err-serve_client-clause-rest
returns-in_err-serve_client-clause-rest g c =
    let p = err_from_is_err_and c.from_residual.result c.from_residual.ensures.1 in
    subst (λ (r : Result (Unit {0}) Unfinished). OnOk r (IsAtRest c.serve_client.new.self.clients.items c.serve_client.new.self.primary)) (sym p.1) tt

pub returns-in_err-serve_client-clause-under_way : goal.returns-in_err-serve_client-clause-under_way
returns-in_err-serve_client-clause-under_way g c =
    let p = err_from_is_err_and c.from_residual.result c.from_residual.ensures.1 in
    subst (λ (r : Result (Unit {0}) Unfinished). OnErr r (IsAtRest c.serve_client.new.self.clients.items c.serve_client.new.self.primary → ⊥)) (sym p.1) c.in_err-serve_client.ensures.under_way

pub returns-in_err-serve_client-clause-over : goal.returns-in_err-serve_client-clause-over
returns-in_err-serve_client-clause-over g c =
    let p = err_from_is_err_and c.from_residual.result c.from_residual.ensures.1 in
    subst (λ (r : Result (Unit {0}) Unfinished). OnOk r (AreOver c.serve_client.new.self.clients.items)) (sym p.1) tt

pub returns-in_err-serve_client-clause-goes : goal.returns-in_err-serve_client-clause-goes
returns-in_err-serve_client-clause-goes g c =
    let l = c.loop-place in
    let k = g.N.Naming.start in
    let t = g.T.Turns in
    let first = global_of c.args.self.now (t.tells c.args.door.now) in
    let was = global_of l.self (t.tells l.door) in
    let now = global_of c.serve_client.new.self (t.tells c.serve_client.new.door) in
    let p = err_from_is_err_and c.from_residual.result c.from_residual.ensures.1 in
    subst (GoesOn k first now) (sym (p.1 ∙ ap Err p.2)) (goes_then k first was now _ l.invariant.goes c.in_err-serve_client.ensures.goes)

pub returns-in_err-serve_client-clause-scripts : goal.returns-in_err-serve_client-clause-scripts
returns-in_err-serve_client-clause-scripts g c = c.serve_client.ensures.scripts ∙ c.loop-place.invariant.scripts

pub returns : goal.returns
returns g c =
    let l = c.loop-place in
    let k = g.N.Naming.start in
    let t = g.T.Turns in
    let first = global_of c.args.self.now (t.tells c.args.door.now) in
    let now = global_of l.self (t.tells l.door) in
    let long : length l.self.clients.items ≤ l.place = let over = c.loop-place-test.false in let long = c.len-place-end.ensures in let every = c.args.self.now.every_client in let still = l.self.every_client in omega (arith, over, long, every, still) in
    record {
      rest = l.invariant.rest;
      over = below_all (λ (x : Caller). (x.errand ≡ None) × (x.left ≡ [])) now.clients l.place long l.invariant.over;
      under_way = tt;
      goes = ends_well k first now l.invariant.goes;
      scripts = l.invariant.scripts;
    }

pub serve_client-requires-clause-before : goal.serve_client-requires-clause-before
serve_client-requires-clause-before g c = λ place low x at. c.loop-place.invariant.over place x low at

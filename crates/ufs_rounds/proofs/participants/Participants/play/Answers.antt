use Rattle.std.proofs.Common.{◌∙◌, List, Ok, Err, [], ap, refl, subst, sym}
use Rattle.std.proofs.lemmas.Result.{err_from_is_err_and, on_ok_weaker}
use Rattle.ufs_gathered.specs.Ended.{AnswerAll, AnswerFirst}
use Rattle.ufs_model.specs.declared.data.Op.{Op}
use Rattle.ufs_rounds.specs.Rest.{IsPlayed}
use Rattle.ufs_rounds.specs.Scripts.{lists_of}
use Rattle.ufs_rounds.specs.View.{global_of}
use Rattle.ufs_rounds.proofs.Answering.{all, first}
use Rattle.ufs_rounds.proofs.Going.{ends_unrested, goes_then, leads_settled}
use Rattle.ufs_rounds.proofs.participants.Participants.play.Goals as goal

pub returns-in_err-settle-clause-played : goal.returns-in_err-settle-clause-played
returns-in_err-settle-clause-played g c =
    let k = g.N.Naming.start in
    let t = g.T.Turns in
    let then = global_of c.turns_of.new.self (t.tells c.turns_of.new.door) in
    let now = global_of c.settle.new.self (t.tells c.settle.new.door) in
    let p = err_from_is_err_and c.from_residual.result c.from_residual.ensures.1 in
    subst (IsPlayed k c.args.schedule.now (global_of c.args.self.now (t.tells c.args.door.now)) now) (sym (p.1 ∙ ap Err p.2))
    (record { then = then; turns = c.turns_of.ensures.turns; goes = ends_unrested k then then now _ ([], refl) c.in_err-settle.ensures.settled })

pub returns-in_err-settle-clause-first : goal.returns-in_err-settle-clause-first
returns-in_err-settle-clause-first g c =
    let now = c.settle.new.self.clients.items in
    subst (λ (s : List (List Op)). AnswerFirst s (lists_of now)) (c.settle.ensures.scripts ∙ c.turns_of.ensures.scripts) (first now)

pub returns-clause-played : goal.returns-clause-played
returns-clause-played g c =
    let k = g.N.Naming.start in
    let t = g.T.Turns in
    let then = global_of c.turns_of.new.self (t.tells c.turns_of.new.door) in
    let mid = global_of c.settle.new.self (t.tells c.settle.new.door) in
    let now = global_of c.serve_left.new.self (t.tells c.serve_left.new.door) in
    record { then = then; turns = c.turns_of.ensures.turns; goes = goes_then k then mid now c.serve_left.result (leads_settled k then mid (Ok tt) c.in_ok-settle.ensures.settled) c.serve_left.ensures.goes }

pub returns-clause-first : goal.returns-clause-first
returns-clause-first g c =
    let now = c.serve_left.new.self.clients.items in
    subst (λ (s : List (List Op)). AnswerFirst s (lists_of now)) (c.serve_left.ensures.scripts ∙ c.in_ok-settle.ensures.scripts ∙ c.turns_of.ensures.scripts) (first now)

pub returns-clause-all : goal.returns-clause-all
returns-clause-all g c =
    let now = c.serve_left.new.self.clients.items in
    on_ok_weaker c.serve_left.result
    (λ over. subst (λ (s : List (List Op)). AnswerAll s (lists_of now)) (c.serve_left.ensures.scripts ∙ c.in_ok-settle.ensures.scripts ∙ c.turns_of.ensures.scripts) (all now over)) c.serve_left.ensures.over

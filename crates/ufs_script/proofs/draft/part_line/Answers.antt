use Rattle.std.proofs.Common.{Result, IfErr, map, subst}
use Rattle.std.proofs.lemmas.Result.{err_from_is_err_and}
use Rattle.ufs_script.specs.Requests.{IsCauseOf}
use Rattle.ufs_script.specs.declared.draft.Draft.{Draft}
use Rattle.ufs_script.specs.declared.fault.Cause.{Cause}
use Rattle.ufs_script.proofs.PartLemmas.{part_err, part_none, part_ok}
use Rattle.ufs_script.proofs.draft.part_line.Goals as goal

pub returns-in_err-schedule-in-Some-clause-err : goal.returns-in_err-schedule-in-Some-clause-err
returns-in_err-schedule-in-Some-clause-err c =
    let p = err_from_is_err_and c.from_residual.result c.from_residual.ensures.1 in
    rw (p.1, p.2) (part_err c.args.draft c.in-Some.schedule c.client_count-clients.result c.args.first.now (map (λ w. w.now) c.args.words.now) (map (λ w. w.now) c.args.rest.now) c.in_err-schedule-in-Some.field-0.0
    c.in-Some.is c.client_count-clients.ensures c.requires.all c.in_err-schedule-in-Some.ensures.err)

pub returns-in-None-clause-err : goal.returns-in-None-clause-err
returns-in-None-clause-err c =
    subst (λ (r : Result Draft Cause). IfErr c.client_part.result (IsCauseOf r)) (part_none c.args.draft c.args.first.now (map (λ w. w.now) c.args.rest.now) c.in-None.is) c.client_part.ensures.err

pub returns-clause-ok : goal.returns-clause-ok
returns-clause-ok c =
    part_ok c.args.draft c.in-Some.schedule c.in_ok-schedule-in-Some.schedule c.client_count-clients.result c.args.first.now (map (λ w. w.now) c.args.words.now) (map (λ w. w.now) c.args.rest.now)
    c.in-Some.is c.client_count-clients.ensures c.requires.all c.in_ok-schedule-in-Some.ensures.ok

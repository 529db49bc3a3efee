use Rattle.std.proofs.Common.{sym, ap, ◌∙◌, Ok, subst}
use Rattle.std.specs.List.{fold}
use Rattle.std.proofs.lemmas.Result.{err_from_is_err_and}
use Rattle.ufs_script.specs.Lines.{ended_lines}
use Rattle.ufs_script.specs.Script.{after_line, IsFaultOf}
use Rattle.ufs_script.proofs.FoldLemmas.{first_break}
use Rattle.ufs_script.proofs.script.read_ended.Goals as goal

pub returns-in_err-draft-clause-err : goal.returns-in_err-draft-clause-err
returns-in_err-draft-clause-err c =
    let p = err_from_is_err_and c.from_residual.result c.from_residual.ensures.1 in
    let f = c.in_err-draft.field-0.0 in
    let all = ap (fold after_line (Ok c.loop-cut.draft)) (sym c.in-Some.ensures.ended) ∙ c.loop-cut.invariant.read in
    rw (p.1, p.2) (subst (λ r. IsFaultOf r f) all (first_break c.loop-cut.draft c.in-Some.cut.front.now (ended_lines c.in-Some.cut.rest.now) f c.in_err-draft.ensures.err))

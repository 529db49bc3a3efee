use Rattle.std.proofs.Common.{subst}
use Rattle.std.proofs.lemmas.Result.{err_from_is_err_and}
use Rattle.ufs_script.specs.Requests.{IsCauseOf}
use Rattle.ufs_script.proofs.TurnLemmas.{first_cause}
use Rattle.ufs_script.proofs.schedule.put_turns.Goals as goal

pub returns-in_err-turn-clause-err : goal.returns-in_err-turn-clause-err
returns-in_err-turn-clause-err c =
    let p = err_from_is_err_and c.from_residual.result c.from_residual.ensures.1 in
    let cause = c.in_err-turn.field-0.0 in
    let first = first_cause c.args.clients c.args.workers c.args.words.now c.loop-word.word-index _ c.loop-word.list cause c.loop-word-test.true c.in_err-turn.ensures.err in
    rw (p.1, p.2) (subst (λ r. IsCauseOf r cause) c.loop-word.invariant.all first)

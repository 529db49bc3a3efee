use Rattle.std.proofs.Common.{◌≡◌, ◌-◌, List, ℕ, Result, IfErr, length, take, drop, arith, ap, subst, sym, ◌∙◌}
use Rattle.std.specs.Prelude.{◌==◌}
use Rattle.std.specs.List.{position}
use Rattle.std.proofs.lemmas.Grind.{common_steps}
use Rattle.ufs_script.specs.Requests.{IsCauseOf}
use Rattle.ufs_script.specs.Schedule.{move_of}
use Rattle.ufs_script.specs.declared.fault.Cause.{Cause}
use Rattle.ufs_script.specs.declared.lists.ScheduleWord.{ScheduleWord}
use Rattle.ufs_script.proofs.TurnLemmas.{move_by}
use Rattle.ufs_script.proofs.schedule.turn_by.Goals as goal

pub returns-then-letter-eq109-clause-err : goal.returns-then-letter-eq109-clause-err
returns-then-letter-eq109-clause-err c =
    let word = c.args.word.now in
    let rest : take (length word - 1) (drop 1 word) ≡ drop 1 word = grind (arith, common_steps) in
    let here = move_by c.args.clients c.args.workers word c.in-len1-up.len_at_least c.if-letter-eq109.true ∙ ap (λ (text : List ℕ). move_of c.args.workers text (position (λ b. b == 58) text)) (sym rest) in
    subst (λ (r : Result ScheduleWord Cause). IfErr c.move_of.result (IsCauseOf r)) (sym here) c.move_of.ensures.err

use Rattle.std.proofs.Common.{◌≡◌, ◌+◌, ◌-◌, ◌∷◌, length, take, drop, arith, sym, ap, ◌∙◌}
use Rattle.std.proofs.lemmas.Grind.{common_steps}
use Rattle.ufs_script.specs.Lines.{ended_lines, unended_line}
use Rattle.ufs_script.proofs.LineLemmas.{first_ended, first_unended, none_ended, only_unended}
use Rattle.ufs_script.proofs.lines.first_line.Goals as goal

pub returns-in_err-end-clause-no_end : goal.returns-in_err-end-clause-no_end
returns-in_err-end-clause-no_end c = rw c.from_residual.ensures (none_ended c.args.text.now (sym c.in_err-end.ensures))

pub returns-in_err-end-clause-last : goal.returns-in_err-end-clause-last
returns-in_err-end-clause-last c = rw c.from_residual.ensures (only_unended c.args.text.now (sym c.in_err-end.ensures))

pub returns-clause-ended : goal.returns-clause-ended
returns-clause-ended c =
    let text = c.args.text.now in
    let end = c.in_ok-end.end in
    let rest : take (length text - (end + 1)) (drop (end + 1) text) ≡ drop (end + 1) text = grind (arith, common_steps) in
    first_ended text end (sym c.in_ok-end.ensures)
    ∙ ap (λ line. line ∷ ended_lines (drop (end + 1) text)) (sym c.without_return.ensures)
    ∙ ap (λ more. c.without_return.result.now ∷ ended_lines more) (sym rest)

pub returns-clause-unended : goal.returns-clause-unended
returns-clause-unended c =
    let text = c.args.text.now in
    let end = c.in_ok-end.end in
    let rest : take (length text - (end + 1)) (drop (end + 1) text) ≡ drop (end + 1) text = grind (arith, common_steps) in
    first_unended text end (sym c.in_ok-end.ensures) ∙ ap unended_line (sym rest)

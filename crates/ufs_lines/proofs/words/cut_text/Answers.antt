use Rattle.std.proofs.Common.{◌≡◌, ◌+◌, ◌-◌, ◌∷◌, ◌++◌, [], length, take, drop, arith, sym, ap, ◌∙◌}
use Rattle.std.proofs.lemmas.Grind.{common_steps}
use Rattle.ufs_lines.proofs.CutLemmas.{cut_at, no_cut}
use Rattle.ufs_lines.proofs.words.cut_text.Goals as goal

pub returns-in_err-end-clause-none : goal.returns-in_err-end-clause-none
returns-in_err-end-clause-none c = λ none front rest is. no_cut c.args.byte c.args.text.now (sym c.in_err-end.ensures) front rest is.1

pub returns-clause-some : goal.returns-clause-some
returns-clause-some c =
    let text = c.args.text.now in
    let end = c.in_ok-end.end in
    let e = cut_at c.args.byte text end (sym c.in_ok-end.ensures) in
    let rest : take (length text - (end + 1)) (drop (end + 1) text) ≡ drop (end + 1) text = grind (arith, common_steps) in
    (e.0, e.1 ∙ ap (λ more. take end text ++ c.args.byte ∷ more) (sym rest))

use Rattle.std.proofs.Common.{◌≡◌, ◌+◌, ◌-◌, ◌∷◌, [], ◌++◌, length, take, drop, arith, sym, ap, ◌∙◌}
use Rattle.std.proofs.lemmas.Grind.{common_steps}
use Rattle.ufs_script.specs.Words.{all_words, words_of}
use Rattle.ufs_script.proofs.WordLemmas.{words_more, words_last}
use Rattle.ufs_script.proofs.words.first_piece.Goals as goal

pub returns-in_err-end-clause-last : goal.returns-in_err-end-clause-last
returns-in_err-end-clause-last c = rw c.from_residual.ensures (words_last c.args.line.now (sym c.in_err-end.ensures))

pub returns-clause-more : goal.returns-clause-more
returns-clause-more c =
    let line = c.args.line.now in
    let end = c.in_ok-end.end in
    let rest : take (length line - (end + 1)) (drop (end + 1) line) ≡ drop (end + 1) line = grind (arith, common_steps) in
    words_more line end (sym c.in_ok-end.ensures) ∙ ap (λ more. all_words (take end line ∷ []) ++ words_of more) (sym rest)

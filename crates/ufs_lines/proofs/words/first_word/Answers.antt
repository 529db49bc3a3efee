use Rattle.std.proofs.Common.{◌≡◌, ◌-◌, ℕ, List, length, take, drop, arith, sym, subst}
use Rattle.std.proofs.lemmas.Grind.{common_steps}
use Rattle.ufs_lines.specs.Trace.{IsFirstWord}
use Rattle.ufs_lines.proofs.CutLemmas.{word_at, word_all}
use Rattle.ufs_lines.proofs.words.first_word.Goals as goal

pub returns-in-Some : goal.returns-in-Some
returns-in-Some c =
    let text = c.args.text.now in
    let end = c.in-Some.end in
    let rest : take (length text - end) (drop end text) ≡ drop end text = grind (arith, common_steps) in
    subst (λ (l : List ℕ). IsFirstWord text (take end text) l) (sym rest) (word_at text end (sym c.in-Some.ensures))

pub returns-in-None : goal.returns-in-None
returns-in-None c = subst (λ (l : List ℕ). IsFirstWord c.args.text.now c.args.text.now l) (sym c.as_slice.ensures) (word_all c.args.text.now (sym c.in-None.ensures))

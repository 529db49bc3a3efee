use Rattle.std.proofs.Common.{◌≡◌, ℕ, List, true, refl, sym}
use Rattle.ufs_lines.proofs.CutLemmas.{is_nil, nil_is}
use Rattle.ufs_audit.proofs.HeadLemmas.{end_word, word_rest, word_tail}
use Rattle.ufs_audit.proofs.head.is_end_word.Goals as goal

pub returns-in_default : goal.returns-in_default
returns-in_default c = ((λ bad. cc), (λ w. absurd (c.in_default.ensures.none refl w.1 (word_rest c.args.line.now c.behind_blanks.result.now c.behind_blanks.ensures w))))

pub returns : goal.returns
returns c = (
  (λ t. end_word c.args.line.now c.behind_blanks.result.now c.in-Some.after.now c.behind_blanks-2.result.now c.behind_blanks.ensures c.in-Some.ensures.some c.behind_blanks-2.ensures
      (is_nil c.behind_blanks-2.result.now c.is_empty.result c.is_empty.ensures t)),
  (λ w. nil_is c.behind_blanks-2.result.now c.is_empty.result c.is_empty.ensures
      (word_tail c.args.line.now c.behind_blanks.result.now c.in-Some.after.now c.behind_blanks-2.result.now c.behind_blanks.ensures c.in-Some.ensures.some c.behind_blanks-2.ensures w)),
)

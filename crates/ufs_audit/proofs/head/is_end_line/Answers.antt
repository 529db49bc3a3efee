use Rattle.std.proofs.Common.{◌≡◌, ℕ, List, refl, inl}
use Rattle.ufs_audit.specs.Sources.{IsEndWord}
use Rattle.ufs_audit.proofs.HeadLemmas.{no_end_line, no_other_end, no_word_end, end_line, other_word}
use Rattle.ufs_audit.proofs.head.is_end_line.Goals as goal

pub returns-in_default : goal.returns-in_default
returns-in_default c = ((λ bad. cc), (λ e. absurd (no_end_line c.args.line.now (c.in_default.ensures.none refl) e)))

pub returns-in_default-without_last : goal.returns-in_default-without_last
returns-in_default-without_last c = (
  (λ bad. cc),
  (λ e. absurd (no_other_end c.args.line.now c.in-Some.front.now c.in-Some.ensures.some (λ word. let bad = c.if-is_end_word.ensures.1 word in cc) (c.in_default-without_last.ensures.none refl) e)),
)

pub returns : goal.returns
returns c = (
  (λ t. end_line c.args.line.now c.in-Some.front.now c.in-Some-without_last.front.now c.in-Some.ensures.some c.in-Some-without_last.ensures.some (c.is_end_word-2.ensures.0 t)),
  (λ e. c.is_end_word-2.ensures.1
      (other_word c.args.line.now c.in-Some.front.now c.in-Some-without_last.front.now c.in-Some.ensures.some (λ word. let bad = c.if-is_end_word.ensures.1 word in cc) c.in-Some-without_last.ensures.some e)),
)

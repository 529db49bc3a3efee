use Rattle.std.proofs.Common.{◌≡◌, ℕ, List, true, false, sym, ◌∙◌, refl}
use Rattle.ufs_lines.proofs.Results.{if_ok}
use Rattle.ufs_audit.proofs.RequestLemmas.{ended_front, ended_by, no_front}
use Rattle.ufs_audit.proofs.answers.is_answer.Goals as goal

pub returns-then-is_none : goal.returns-then-is_none
returns-then-is_none c = (
  (λ bad. cc),
  (λ is. absurd (no_front c.args.line.now c.without_last.result c.if-is_none.ensures c.without_last.ensures.none is.0.0 is.0.2)),
)

pub returns : goal.returns
returns c =
    let front = ended_front c.args.line.now c.without_last.result c.if-is_none.ensures c.without_last.ensures.some in
    ((λ t. (ended_by c.args.line.now front.0 c.requires front.1, c.in_ok-is.ensures.0 t)), (λ is. c.in_ok-is.ensures.1 is.1))

use Rattle.std.proofs.Common.{refl}
use Rattle.ufs_lines.proofs.ReplyLemmas.{error_none, error_is}
use Rattle.ufs_lines.proofs.replies.is_error.Goals as goal

pub returns-in_default : goal.returns-in_default
returns-in_default c = ((λ bad. cc), (λ e. absurd (error_none c.args.text.now (c.in_default.ensures.none refl) e)))

pub returns : goal.returns
returns c =
    let is = error_is c.args.text.now c.in-Some.name.now c.in-Some.ensures.some in
    ((λ t. is.0 (c.is_errno.ensures.0 t)), (λ e. c.is_errno.ensures.1 (is.1 e)))

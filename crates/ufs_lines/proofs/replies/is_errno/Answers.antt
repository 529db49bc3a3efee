use Rattle.std.proofs.Common.{◌≡◌, refl, inl, inr}
use Rattle.ufs_lines.proofs.ReplyLemmas.{is_errno, errno_last}
use Rattle.ufs_lines.proofs.replies.is_errno.Goals as goal

pub returns-then-is_one_of : goal.returns-then-is_one_of
returns-then-is_one_of c = ((λ t. (is_errno c.args.name.now).1 (inl (c.if-is_one_of.ensures.0 refl))), (λ e. refl))

pub returns-then-is_one_of-2 : goal.returns-then-is_one_of-2
returns-then-is_one_of-2 c = ((λ t. (is_errno c.args.name.now).1 (inr (inl (c.if-is_one_of-2.ensures.0 refl)))), (λ e. refl))

pub returns-then-is_one_of-3 : goal.returns-then-is_one_of-3
returns-then-is_one_of-3 c = ((λ t. (is_errno c.args.name.now).1 (inr (inr (inl (c.if-is_one_of-3.ensures.0 refl))))), (λ e. refl))

pub returns : goal.returns
returns c = errno_last c.args.name.now c.is_one_of-4.result
    (λ x. let bad = c.if-is_one_of.ensures.1 x in cc) (λ x. let bad = c.if-is_one_of-2.ensures.1 x in cc) (λ x. let bad = c.if-is_one_of-3.ensures.1 x in cc) c.is_one_of-4.ensures

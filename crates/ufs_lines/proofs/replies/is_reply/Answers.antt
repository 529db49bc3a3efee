use Rattle.std.proofs.Common.{◌≡◌, ◌∙◌, ℕ, List, sym, refl, true, false, inl, inr}
use Rattle.ufs_model.specs.declared.data.Reply.TheVariants as reply
use Rattle.ufs_lines.proofs.Results.{if_ok}
use Rattle.ufs_lines.proofs.ReplyLemmas.{of_error, of_count, of_data, of_names, only_names}
use Rattle.ufs_lines.proofs.replies.is_reply.Goals as goal

pub returns-then-same_bytes : goal.returns-then-same_bytes
returns-then-same_bytes c = ((λ t. (reply.Done, tt, c.if-same_bytes.ensures.0 refl)), (λ x. refl))

pub returns-then-is_error : goal.returns-then-is_error
returns-then-is_error c = ((λ t. of_error c.args.text.now (c.if-is_error.ensures.0 refl)), (λ x. refl))

pub returns-then-branch : goal.returns-then-branch
returns-then-branch c = ((λ t. of_count c.args.text.now (c.in_ok-is_count.ensures.0 c.if-branch.true)), (λ x. refl))

pub returns-then-branch-2 : goal.returns-then-branch-2
returns-then-branch-2 c = ((λ t. of_data c.args.text.now (c.in_ok-is_data.ensures.0 c.if-branch-2.true)), (λ x. refl))

pub returns : goal.returns
returns c =
    if_ok c.is_names.result
    (λ names e. only_names c.args.text.now names
    (λ x. let bad = c.if-same_bytes.ensures.1 x in cc)
    (λ x. let bad = c.if-is_error.ensures.1 x in cc)
    (λ x. let bad : true ≡ false = sym (c.in_ok-is_count.ensures.1 x) ∙ c.if-branch.false in cc)
    (λ x. let bad : true ≡ false = sym (c.in_ok-is_data.ensures.1 x) ∙ c.if-branch-2.false in cc)
    e) c.is_names.ensures

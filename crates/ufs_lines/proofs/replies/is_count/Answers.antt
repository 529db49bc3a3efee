use Rattle.std.proofs.Common.{◌≡◌, ◌∙◌, ℕ, List, sym, refl, true, false, inl, inr, Bool}
use Rattle.ufs_lines.proofs.Results.{if_ok}
use Rattle.ufs_lines.proofs.ReplyLemmas.{is_count}
use Rattle.ufs_lines.proofs.replies.is_count.Goals as goal

pub returns-then-branch-4 : goal.returns-then-branch-4
returns-then-branch-4 c = ((λ t. inr (inr (inr (inl (c.in_ok-is_numbered-4.ensures.0 c.if-branch-4.true))))), (λ x. refl))

pub returns : goal.returns
returns c =
    if_ok c.is_numbered-5.result
    (λ dir e. is_count c.args.text.now dir
    (λ x. let bad : true ≡ false = sym (c.in_ok-is_numbered.ensures.1 x) ∙ c.if-branch.false in cc)
    (λ x. let bad : true ≡ false = sym (c.in_ok-is_numbered-2.ensures.1 x) ∙ c.if-branch-2.false in cc)
    (λ x. let bad : true ≡ false = sym (c.in_ok-is_numbered-3.ensures.1 x) ∙ c.if-branch-3.false in cc)
    (λ x. let bad : true ≡ false = sym (c.in_ok-is_numbered-4.ensures.1 x) ∙ c.if-branch-4.false in cc)
    e) c.is_numbered-5.ensures

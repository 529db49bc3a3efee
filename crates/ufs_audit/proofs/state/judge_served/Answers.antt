use Rattle.std.proofs.Common.{◌≡◌, ◌∙◌, sym, refl, true, false}
use Rattle.ufs_audit.proofs.StepLemmas.{judged_served, judged_unserved}
use Rattle.ufs_audit.proofs.state.judge_served.Goals as goal

pub returns-then-branch-clause-judged : goal.returns-then-branch-clause-judged
returns-then-branch-clause-judged c =
    judged_served c.args.tree.now c.step.new.self c.args.answers.now c.args.told.now c.args.op.now c.in_ok-reply.reply c.requires.plain c.in_ok-reply.ensures.ok (c.in_ok-is_answered.ensures.0 c.if-branch.true)

pub returns-clause-judged : goal.returns-clause-judged
returns-clause-judged c = λ ticket faults.
    judged_unserved c.args.tree.now c.step.new.self c.args.answers.now c.args.told.now c.args.op.now c.in_ok-reply.reply c.requires.plain c.in_ok-reply.ensures.ok
    (λ answered. let bad : true ≡ false = sym (c.in_ok-is_answered.ensures.1 answered) ∙ c.if-branch.false in cc) ticket

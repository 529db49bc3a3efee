use Rattle.std.proofs.Common.{◌≡◌, ◌∙◌, sym, true, false}
use Rattle.ufs_audit.proofs.StepLemmas.{judged_starved, judged_unstarved}
use Rattle.ufs_audit.proofs.state.judge_starved.Goals as goal

pub returns-then-branch : goal.returns-then-branch
returns-then-branch c = record {
  judged = judged_starved c.args.tree.now c.args.answers.now c.args.told.now c.requires.starved (c.in_ok-is_starved.ensures.0 c.if-branch.true);
}

pub returns-else-branch : goal.returns-else-branch
returns-else-branch c = record {
  judged = λ ticket faults op.
      judged_unstarved c.args.tree.now c.args.answers.now c.args.told.now c.requires.starved (λ answered. let bad : true ≡ false = sym (c.in_ok-is_starved.ensures.1 answered) ∙ c.if-branch.false in cc) ticket op;
}

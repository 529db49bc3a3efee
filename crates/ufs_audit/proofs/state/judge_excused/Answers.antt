use Rattle.std.proofs.Common.{◌≡◌, ◌∙◌, ℕ, List, Ok, sym, ap, subst, refl, true, false, Bool}
use Rattle.ufs_model.specs.declared.data.Reply.{Reply}
use Rattle.ufs_audit.specs.Following.{IsFresh, with_fault}
use Rattle.ufs_audit.proofs.state.judge_excused.Goals as goal

pub returns-then-not-branch-clause-judged : goal.returns-then-not-branch-clause-judged
returns-then-not-branch-clause-judged c = λ answered. let yes = c.in_ok-is_answered.ensures.1 answered in cc

pub returns-then-not-is_fresh-clause-judged : goal.returns-then-not-is_fresh-clause-judged
returns-then-not-is_fresh-clause-judged c = (
  c.in_ok-is_answered.ensures.0 c.if-not-branch.false,
  (λ replied fresh. let yes = c.if-not-is_fresh.ensures.1 (subst (IsFresh c.args.faults.now.keys) c.requires.excused fresh) in cc),
)

pub returns-then-not-branch-2-clause-judged : goal.returns-then-not-branch-2-clause-judged
returns-then-not-branch-2-clause-judged c = (
  c.in_ok-is_answered.ensures.0 c.if-not-branch.false,
  (λ replied fresh. let yes = c.in_ok-legal_step.ensures.legal.1 replied in cc),
)

pub returns-clause-judged : goal.returns-clause-judged
returns-clause-judged c = record {
  answered = c.in_ok-is_answered.ensures.0 c.if-not-branch.false;
  replied = c.in_ok-legal_step.ensures.legal.0 c.if-not-branch-2.false;
  fresh = subst (IsFresh c.args.faults.now.keys) (sym c.requires.excused) (c.if-not-is_fresh.ensures.0 refl);
  tree_is = c.in_ok-legal_step.ensures.goes_on (ap Ok c.if-not-branch-2.false);
  faults_are = c.in_ok-put_fault.ensures ∙ ap (with_fault c.args.faults.now.keys) (sym c.requires.excused);
}

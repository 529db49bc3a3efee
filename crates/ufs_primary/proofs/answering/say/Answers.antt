use Rattle.std.proofs.Common.{List, ap, subst, ◌∙◌}
use Rattle.ufs_at_primary.specs.OfServing.{AnswersGo, Said, all_said}
use Rattle.ufs_at_primary.proofs.OfServing.{all_said-more}
use Rattle.ufs_primary.proofs.answering.say.Goals as goal

pub returns-clause-goes : goal.returns-clause-goes
returns-clause-goes g c =
    subst (λ (xs : List Said). AnswersGo g.Q.ServerPost.answers g.Q.ServerPost.same g.Q.ServerPost.answers_full xs (all_said c.send_answers.new.kept.items) c.args.post.now c.send_answers.new.post)
    (ap all_said c.push_back_reserved.ensures.items ∙ all_said-more c.args.answers.now.items c.args.answer) c.send_answers.ensures.goes

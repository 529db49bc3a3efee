use Rattle.std.proofs.Common.{ap, arith, ◌∙◌}
use Rattle.ufs_serving.specs.Posts.{IsFullFor, IsSaid, all_said, said}
use Rattle.ufs_serving.proofs.Letters.{goes_on}
use Rattle.ufs_serving.proofs.answers.send_answers.Goals as goal

pub loop-answer-preserved : goal.loop-answer-preserved
loop-answer-preserved g c =
    let n = c.in-Some.ensures.cases in
    let b = c.loop-answer.invariant.fewer in
    record {
      gone = goes_on (IsSaid g.Q.ServerPost.answers g.Q.ServerPost.same g.Q.ServerPost.answers_full) g.Q.ServerPost.same (IsFullFor g.Q.ServerPost.answers g.Q.ServerPost.same g.Q.ServerPost.answers_full)
          (all_said c.args.kept.now.items) (all_said c.loop-answer.kept.items) (all_said c.pop_front.new.self.items) (said c.in-Some.answer) c.args.post.now c.loop-answer.post c.send_answer.new.post
          c.loop-answer.invariant.gone (ap all_said c.in-Some.ensures.items) c.in_default-send_answer.ensures.went;
      fewer = omega (arith, n, b);
      capacity = c.pop_front.ensures.capacity ∙ c.loop-answer.invariant.capacity;
      me = c.send_answer.ensures.me ∙ c.loop-answer.invariant.me;
    }

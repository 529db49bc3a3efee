use Rattle.std.proofs.Common.{◌≡◌, ◌≤◌}
use Rattle.std.specs.VecDeque.{deque_capacity, deque_len}
use Rattle.ufs_serving.specs.Posts.{IsFullFor, IsSaid, all_said}
use Rattle.ufs_serving.proofs.Letters.{HaveGone}
use Rattle.ufs_serving.proofs.answers.send_answers.Given as goal

abbrev pub invariant-loop-answer : goal.invariant-loop-answer
invariant-loop-answer g l = record {
  gone : HaveGone (IsSaid g.Q.ServerPost.answers g.Q.ServerPost.same g.Q.ServerPost.answers_full) g.Q.ServerPost.same (IsFullFor g.Q.ServerPost.answers g.Q.ServerPost.same g.Q.ServerPost.answers_full)
      (all_said l.fn.kept.items) (all_said l.kept.items) l.fn.post l.post;
  fewer : deque_len l.kept ≤ deque_len l.fn.kept;
  capacity : deque_capacity l.kept ≡ deque_capacity l.fn.kept;
  me : g.Q.ServerPost.me l.post ≡ g.Q.ServerPost.me l.fn.post;
}

abbrev pub decreases-loop-answer : goal.decreases-loop-answer
decreases-loop-answer g l = deque_len l.kept

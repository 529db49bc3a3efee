use Rattle.std.specs.VecDeque.{deque_capacity, deque_len}
use Rattle.ufs_msg.specs.There.{client_count}
use Rattle.ufs_primary.proofs.Rooms.{empty_room}
use Rattle.ufs_primary.proofs.primary.Primary.make.Goals as goal

pub invariant_of-result : goal.invariant_of-result
invariant_of-result g c =
    let q = c.into_queues-answers in
    let k = client_count g.N.Naming.start in (
      empty_room k (deque_len q.result.0) (deque_capacity q.result.0) q.result.0.items q.result.0.ok.0 q.ensures.no_answers q.ensures.answers,
      empty_room k (deque_len q.result.1) (deque_capacity q.result.1) q.result.1.items q.result.1.ok.0 q.ensures.none_waits q.ensures.waiting,
    )

use Rattle.std.proofs.Common.{◌≡◌, ◌≤◌}
use Rattle.std.specs.VecDeque.{deque_capacity, deque_len}
use Rattle.ufs_model.specs.declared.data.Actor.TheVariants.{Primary}
use Rattle.ufs_msg.specs.declared.letter.Letter.TheVariants as letter
use Rattle.ufs_serving.proofs.Letters.{HaveGone}
use Rattle.ufs_worker.proofs.sending.send_kept.Given as goal

abbrev pub invariant-loop-parcel : goal.invariant-loop-parcel
invariant-loop-parcel g l = record {
  gone : HaveGone (λ p c q. g.Q.ServerPost.sends p Primary (letter.Parcel c) q) g.Q.ServerPost.same (λ p c. g.Q.ServerPost.letters_full p Primary) l.fn.leaving.items l.leaving.items l.fn.post l.post;
  fewer : deque_len l.leaving ≤ deque_len l.fn.leaving;
  capacity : deque_capacity l.leaving ≡ deque_capacity l.fn.leaving;
  me : g.Q.ServerPost.me l.post ≡ g.Q.ServerPost.me l.fn.post;
}

abbrev pub decreases-loop-parcel : goal.decreases-loop-parcel
decreases-loop-parcel g l = deque_len l.leaving

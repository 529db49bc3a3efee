use Rattle.std.proofs.Common.{◌≡◌, ◌≤◌, ℕ}
use Rattle.std.specs.VecDeque.{deque_capacity, deque_len}
use Rattle.ufs_model.specs.declared.data.Actor.TheVariants.{Worker}
use Rattle.ufs_home.specs.Letters.{letter_of}
use Rattle.ufs_home.specs.Owning.{AreKnown}
use Rattle.ufs_home.proofs.Going.{HaveGone}
use Rattle.ufs_home.proofs.sending.send_kept.Given as goal

abbrev pub invariant-loop-letter : goal.invariant-loop-letter
invariant-loop-letter g l = record {
  gone : HaveGone (λ p m q. g.Q.ServerPost.sends p (Worker l.to) (letter_of m) q) g.Q.ServerPost.same (λ p. g.Q.ServerPost.letters_full p (Worker l.to)) l.fn.letters.items l.letters.items l.fn.owners.files l.owners.files l.fn.post l.post;
  fewer : deque_len l.letters ≤ deque_len l.fn.letters;
  capacity : deque_capacity l.letters ≡ deque_capacity l.fn.letters;
  known : (workers : ℕ) → AreKnown workers l.fn.owners.files → AreKnown workers l.owners.files;
  me : g.Q.ServerPost.me l.post ≡ g.Q.ServerPost.me l.fn.post;
}

abbrev pub decreases-loop-letter : goal.decreases-loop-letter
decreases-loop-letter g l = deque_len l.letters

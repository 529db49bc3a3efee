use Rattle.std.proofs.Common.{◌≡◌, ℕ, length}
use Rattle.ufs_model.specs.declared.data.Actor.TheVariants.{Worker}
use Rattle.ufs_home.specs.Letters.{RingsGo, letter_of}
use Rattle.ufs_home.specs.Owning.{AreKnown}
use Rattle.ufs_home.proofs.sending.send_boxes.Given as goal

abbrev pub invariant-loop-place : goal.invariant-loop-place
invariant-loop-place g l = record {
  gone : RingsGo (λ w p m q. g.Q.ServerPost.sends p (Worker w) (letter_of m) q) g.Q.ServerPost.same (λ p w. g.Q.ServerPost.letters_full p (Worker w)) l.place l.fn.boxes.items l.boxes.items l.fn.owners.files l.owners.files l.fn.post l.post;
  each : length l.boxes.items ≡ l.workers;
  known : (n : ℕ) → AreKnown n l.fn.owners.files → AreKnown n l.owners.files;
  me : g.Q.ServerPost.me l.post ≡ g.Q.ServerPost.me l.fn.post;
}

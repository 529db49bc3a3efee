use Rattle.std.proofs.Common.{ℕ, length, ap, ◌∙◌}
use Rattle.std.specs.Prelude.{replicate}
use Rattle.ufs_msg.specs.Plain.{empty}
use Rattle.ufs_rounds.proofs.room.Room.make.Goals as goal

pub returns-clause-rings : goal.returns-clause-rings
returns-clause-rings g c =
    let made = c.in_ok-post.ensures in
    record {
      no_request = made.requests;
      no_answer = made.clients ∙ ap (λ (n : ℕ). replicate n (empty 1)) (ap length c.as_slice-count.ensures.value);
      no_letter = made.letters;
    }

-- A ring without an answer in the place of another.
use Rattle.std.proofs.Common.{◌≡◌, ℕ, List, [], Some, set, slice_get, ⊎_elim, sym, ap, ◌∙◌, subst}
use Rattle.circular_buffer.specs.Buffer.{Buffer, buffer}
use Rattle.ufs_msg.proofs.Places.{get_set}
use Rattle.ufs_msg.specs.Plain.{AreAddressed}
use Rattle.ufs_msg.specs.declared.answer.Answer.{Answer}
use Rattle.ufs_hand_laws.specs.Owned.{Has}

pub still_addressed : {N : Type 0} (old : List (Buffer (Answer N))) (client room : ℕ) (is : Buffer (Answer N)) → is ≡ buffer [] room → AreAddressed old → AreAddressed (set old client is)
still_addressed old client room is none are c ring x at has =
    ⊎_elim
    (λ (e : (c ≡ client) × (is ≡ ring)). absurd (subst (λ (b : Buffer (Answer _)). Has x b.items) (sym e.1 ∙ none) has))
    (λ (e : slice_get old c ≡ Some ring). are c ring x e has)
    (get_set old client c is ring at)

-- Whose an answer is.
use Rattle.std.specs.Prelude.{ℕ, ◌≡◌}
use Rattle.ufs_msg.specs.declared.answer.Answer.{Answer}
use Rattle.ufs_msg.specs.declared.answer.Answer.TheVariants.{Served, Redirect}

module _ {N : Type 0} where
  -- the client whose part the answer's hand has
  abbrev pub client_of : Answer N → ℕ
  client_of (Served s) = s.entry.client
  client_of (Redirect r) = r.request.ask.client

  abbrev pub IsAnswerTo : ℕ → Answer N → Type 0
  IsAnswerTo client x = client_of x ≡ client

-- The answers that a server keeps where a ring is full, and how they go.
use Rattle.std.specs.Prelude.{ℕ, ◌≡◌, ◌⊎◌, List, [], ◌∷◌}
use Rattle.std.proofs.Common.{inl, inr}
use Rattle.std.specs.Coded.{Coded, coded⊎}
use Rattle.ufs_msg.specs.Answers.{Sent, Told, sent_code, told_code}
use Rattle.ufs_msg.specs.declared.answer.Answer.{Answer}
use Rattle.ufs_msg.specs.declared.answer.Answer.TheVariants.{Served, Redirect}
use Rattle.ufs_serving.specs.Sending.{GoInOrder}

-- what an answer says: the request was served, or it is to go elsewhere
abbrev pub Said : Type 0
Said = Told ⊎ Sent

abbrev pub said_code : Coded Said
said_code = coded⊎ told_code sent_code

-- whose the answer is
abbrev pub client_in : Said → ℕ
client_in (inl told) = told.entry.client
client_in (inr sent) = sent.request.ask.client

module _ {N : Type 0} where
  abbrev pub said : Answer N → Said
  said (Served s) = inl s
  said (Redirect r) = inr r

  abbrev pub all_said : List (Answer N) → List Said
  all_said [] = []
  all_said (x ∷ xs) = said x ∷ all_said xs

  module _ {Q : Type 0} (answers : Q → ℕ → Answer N → Q → Type 0) (same : Q → Q → Type 0) (full : Q → ℕ → Type 0) where
    -- An answer that says this went to its client's ring.
    abbrev pub IsSaid : Q → Said → Q → Type 0
    IsSaid p s q = (x : Answer N) × (said x ≡ s) × answers p (client_in s) x q

    -- The ring of its client was full.
    abbrev pub IsFullFor : Q → Said → Type 0
    IsFullFor p s = full p (client_in s)

    -- Answers go in order, and one whose client's ring was full stays, with those behind it.
    abbrev pub AnswersGo : List Said → List Said → Q → Q → Type 0
    AnswersGo = GoInOrder IsSaid same IsFullFor

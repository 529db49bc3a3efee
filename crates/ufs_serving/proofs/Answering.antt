-- How an answer goes.
use Rattle.std.proofs.Common.{◌≡◌, ℕ, List, [], ◌∷◌, ◌++◌, Option, Some, None, refl, sym, ap, ◌∙◌, subst}
use Rattle.std.specs.Prelude.{IfNone, IfSome}
use Rattle.ufs_model.proofs.Facts.Lookups.{same_some}
use Rattle.ufs_msg.specs.Addressed.{IsAnswerTo, client_of}
use Rattle.ufs_msg.specs.declared.answer.Answer.{Answer}
use Rattle.ufs_msg.specs.declared.answer.Answer.TheVariants.{Served, Redirect}
use Rattle.ufs_serving.specs.Posts.{IsFullFor, IsSaid, all_said, client_in, said}

module _ {N : Type 0} where
  client_said : (x : Answer N) → client_in (said x) ≡ client_of x
  client_said (Served s) = refl
  client_said (Redirect r) = refl

  pub all_said-more : (xs : List (Answer N)) (x : Answer N) → all_said (xs ++ x ∷ []) ≡ all_said xs ++ said x ∷ []
  all_said-more [] x = refl
  all_said-more (y ∷ ys) x = λ i. said y ∷ all_said-more ys x i

  module _ {Q : Type 0} (answers : Q → ℕ → Answer N → Q → Type 0) (same : Q → Q → Type 0) (full : Q → ℕ → Type 0) where
    pub said_went : (x : Answer N) (new : Option (Answer N)) (client : ℕ) (p q : Q) → IsAnswerTo client x → IfNone new (answers p client x q) → IfNone new (IsSaid answers same full p (said x) q)
    said_went x None client p q to went = (x, refl, subst (λ (c : ℕ). answers p c x q) (sym (client_said x ∙ to)) went)
    said_went x (Some y) client p q to went = tt

    pub said_stays : (x : Answer N) (new : Option (Answer N)) (client : ℕ) (p q : Q) → IsAnswerTo client x → IfSome new (λ _. (new ≡ Some x) × same p q × full p client)
        → IfSome new (λ y. (said y ≡ said x) × same p q × IsFullFor answers same full p (said x))
    said_stays x None client p q to stays = tt
    said_stays x (Some y) client p q to stays = (ap said (same_some y x stays.0), stays.1, subst (full p) (sym (client_said x ∙ to)) stays.2)

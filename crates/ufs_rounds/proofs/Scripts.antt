-- A client's script is the same behind each of its turns.
use Rattle.std.proofs.Common.{◌≡◌, inl, inr, ℕ, Bool, true, false, List, [], ◌∷◌, ◌++◌, append_assoc, map, Option, Some, None, ap, sym, refl, ◌∙◌}
use Rattle.ufs_caller.specs.Callers.{Caller, Errand, entries_in}
use Rattle.ufs_caller.specs.Turns.{AnswersItself, IsAnswered, IsTurn, Sends, SendsOn, TriesAgain}
use Rattle.ufs_caller.specs.declared.told.Told.{Told}
use Rattle.ufs_caller.specs.declared.turn.Turn.{Turn}
use Rattle.ufs_caller.specs.declared.turn.Turn.TheVariants as turn
use Rattle.ufs_model.specs.declared.data.Actor.{Actor}
use Rattle.ufs_model.specs.declared.data.Op.{Op}
use Rattle.ufs_msg.specs.Answers as answers
use Rattle.ufs_msg.specs.Requests.{Asked}
use Rattle.ufs_msg.specs.declared.answer.Answer.{Answer}
use Rattle.ufs_rounds.specs.Scripts.{script_of, under_way}

abbrev ops_in : List Told → List Op
ops_in told = map (λ e. e.op) (entries_in told)

-- the script, by its three parts
abbrev script : List Told → Option Errand → List Op → List Op
script told errand left = ops_in told ++ (under_way errand ++ left)

one_more : (told : List Told) (t : Told) → ops_in (told ++ t ∷ []) ≡ ops_in told ++ t.entry.op ∷ []
one_more [] t = refl
one_more (x ∷ told) t = λ i. x.entry.op ∷ one_more told t i

-- the request that is answered was the one under way, or the next one
told_next : (told : List Told) (t : Told) (request : Op) (left : List Op) → t.entry.op ≡ request → ops_in (told ++ t ∷ []) ++ left ≡ ops_in told ++ (request ∷ left)
told_next told t request left is =
    (λ i. one_more told t i ++ left)
    ∙ append_assoc (ops_in told) (t.entry.op ∷ []) left
    ∙ (λ i. ops_in told ++ (is i ∷ left))

module _ (a b : Caller) where
  sends : (to : Actor) (r : Asked) (kept : Option Asked) → Sends to r kept a b → script_of b ≡ script_of a
  sends to r kept s = (λ i. script (s.told i) (s.errand i) b.left) ∙ (λ i. script a.told (sym s.idle i) (sym s.next i))

  answers_itself : (since upto : ℕ) → AnswersItself since upto a b → script_of b ≡ script_of a
  answers_itself since upto s =
      let t : Told = record { entry = s.entry; via = [] } in
      (λ i. script (s.told i) (s.idle' i) b.left)
      ∙ told_next a.told t s.request b.left s.asked
      ∙ (λ i. script a.told (sym s.idle i) (sym s.next i))

  tries_again : (to : Actor) (r : Asked) (kept : Option Asked) (again : Bool) → TriesAgain to r kept again a b → script_of b ≡ script_of a
  tries_again to r kept again s = ap script_of s.all ∙ (λ i. script a.told (sym s.errand i) a.left)

  sends_on : (x : answers.Sent) (r : Asked) (kept : Option Asked) → SendsOn x r kept a b → script_of b ≡ script_of a
  sends_on x r kept s = (λ i. script (s.told i) (s.errand' i) (s.left i)) ∙ (λ i. script a.told (sym s.errand i) a.left)

  is_answered : (x : answers.Told) → IsAnswered x a b → script_of b ≡ script_of a
  is_answered x s =
      let t : Told = record { entry = x.entry; via = s.e.via } in
      (λ i. script (s.told i) (s.idle i) (s.left i))
      ∙ told_next a.told t s.e.request a.left s.asked
      ∙ (λ i. script a.told (sym s.errand i) a.left)

module _ {P N : Type 0} (asks : P → Actor → Asked → P → Type 0) (gets : P → Answer N → P → Type 0) (same : P → P → Type 0) (full : P → Actor → Type 0) (empty : P → Type 0) (since upto : ℕ) (p q : P) (a b : Caller) where
  pub same_script : (t : Turn) → IsTurn asks gets same full empty since upto p q a t b → script_of b ≡ script_of a
  same_script (turn.Sent to) (inl x) = sends a b to x.0 None x.1
  same_script (turn.Sent to) (inr x) = tries_again a b to x.0 None false x.1
  same_script (turn.Resent to) (inl x) = sends_on a b x.0 x.1 None x.5
  same_script (turn.Resent to) (inr x) = tries_again a b to x.0 None true x.1
  same_script turn.Local x = answers_itself a b since upto x.0
  same_script turn.Told x = is_answered a b x.0 x.2
  same_script (turn.Full to) (inl x) = sends a b to x.0 (Some x.0) x.1
  same_script (turn.Full to) (inr (inl x)) = sends_on a b x.0 x.1 (Some x.1) x.5
  same_script (turn.Full to) (inr (inr x)) = tries_again a b to x.1.0 (Some x.1.0) x.0 x.1.1
  same_script turn.Waiting x = ap script_of x.0.all
  same_script turn.Done x = ap script_of x.0.all

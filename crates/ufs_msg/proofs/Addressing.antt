-- A client's ring has answers to it alone, whatever comes and goes.
use Rattle.std.proofs.Common.{◌≡◌, ℕ, zero, suc, ◌⊎◌, ⊎_elim, inl, inr, List, [], ◌∷◌, ◌++◌, replicate, slice_get, Option, Some, None, Result, Ok, Err, IfSome, MatchOption, MatchResult, refl, sym, ap, ◌∙◌, subst}
use Rattle.circular_buffer.specs.Buffer.{Buffer, buffer}
use Rattle.ufs_ring.specs.Buffers.{HasGained, HasLost}
use Rattle.ufs_hand_laws.specs.Owned.{Has}
use Rattle.ufs_msg.specs.Addressed.{IsAnswerTo}
use Rattle.ufs_msg.specs.Plain.{AreAddressed}
use Rattle.ufs_msg.specs.Rows.{HappensAt}
use Rattle.ufs_msg.specs.declared.answer.Answer.{Answer}
use Rattle.ufs_msg.proofs.Places.{get_set}

has_snoc : {A : Type 0} (xs : List A) (y x : A) → Has y (xs ++ x ∷ []) → Has y xs ⊎ (y ≡ x)
has_snoc [] y x h = ⊎_elim (λ e. inr e) (λ no. absurd no) h
has_snoc (z ∷ xs) y x h = ⊎_elim (λ e. inl (inl e)) (λ t. ⊎_elim (λ i. inl (inr i)) (λ e. inr e) (has_snoc xs y x t)) h

module _ {N : Type 0} where
  pub addressed_more : (old new : List (Buffer (Answer N))) (client : ℕ) (x : Answer N) → AreAddressed old → IsAnswerTo client x → HappensAt HasGained old client x new → AreAddressed new
  addressed_more old new client x are mine h c ring y at has =
      ⊎_elim
      (λ (e : (c ≡ client) × (h.is ≡ ring)).
      let items : ring.items ≡ h.was.items ++ x ∷ [] = ap (λ (b : Buffer (Answer N)). b.items) (sym e.1 ∙ h.so.1) in
      ⊎_elim
      (λ (was : Has y h.was.items). are c h.was y (subst (λ k. slice_get old k ≡ Some h.was) (sym e.0) h.stood) was)
      (λ (is : y ≡ x). subst (λ (p : ℕ × Answer N). IsAnswerTo p.0 p.1) (λ i. (sym e.0 i, sym is i)) mine)
      (has_snoc h.was.items y x (subst (Has y) items has)))
      (λ (e : slice_get old c ≡ Some ring). are c ring y e has)
      (get_set old client c h.is ring (sym (ap (λ l. slice_get l c) h.stands) ∙ at))

  pub addressed_less : (old new : List (Buffer (Answer N))) (client : ℕ) (x : Answer N) → AreAddressed old → HappensAt HasLost old client x new → AreAddressed new
  addressed_less old new client x are h c ring y at has =
      ⊎_elim
      (λ (e : (c ≡ client) × (h.is ≡ ring)).
      let was : Has y h.was.items = subst (Has y) (sym h.so.0) (inr (subst (λ (b : Buffer (Answer N)). Has y b.items) (sym e.1) has)) in
      are c h.was y (subst (λ k. slice_get old k ≡ Some h.was) (sym e.0) h.stood) was)
      (λ (e : slice_get old c ≡ Some ring). are c ring y e has)
      (get_set old client c h.is ring (sym (ap (λ l. slice_get l c) h.stands) ∙ at))

  -- what is taken is for this client
  pub addressed_front : (old new : List (Buffer (Answer N))) (client : ℕ) (x : Answer N) → AreAddressed old → HappensAt HasLost old client x new → IsAnswerTo client x
  addressed_front old new client x are h = are client h.was x h.stood (subst (Has x) (sym h.so.0) (inl refl))

  pub addressed_taken : (P : Type 0) (old new : List (Buffer (Answer N))) (client : ℕ) (r : Option (Answer N)) → AreAddressed old → MatchOption r ((new ≡ old) × P) (λ x. HappensAt HasLost old client x new) → AreAddressed new
  addressed_taken P old new client None are h = subst AreAddressed (sym h.0) are
  addressed_taken P old new client (Some x) are h = addressed_less old new client x are h

  pub addressed_put : (P : Type 0) (old new : List (Buffer (Answer N))) (client : ℕ) (x : Answer N) (r : Result (Unit {0}) (Answer N)) → AreAddressed old → IsAnswerTo client x → MatchResult r (λ _. HappensAt HasGained old client x new) (λ y. (y ≡ x) × (new ≡ old) × P) → AreAddressed new
  addressed_put P old new client x (Ok u) are mine h = addressed_more old new client x are mine h
  addressed_put P old new client x (Err y) are mine h = subst AreAddressed (sym h.1) are

  pub taken_is_mine : (P : Type 0) (old new : List (Buffer (Answer N))) (client : ℕ) (r : Option (Answer N)) → AreAddressed old → MatchOption r ((new ≡ old) × P) (λ x. HappensAt HasLost old client x new) → IfSome r (IsAnswerTo client)
  taken_is_mine P old new client None are h = tt
  taken_is_mine P old new client (Some x) are h = addressed_front old new client x are h

  get_replicate : (n place : ℕ) (b r : Buffer (Answer N)) → slice_get (replicate n b) place ≡ Some r → r ≡ b
  get_replicate zero place b r e = let no = e in cc
  get_replicate (suc n) zero b r e = let same = e in cc
  get_replicate (suc n) (suc place) b r e = get_replicate n place b r e

  pub addressed_new : (n room : ℕ) (rings : List (Buffer (Answer N))) → rings ≡ replicate n (buffer [] room) → AreAddressed rings
  addressed_new n room rings is client ring x at has =
      let new : ring ≡ buffer [] room = get_replicate n client (buffer [] room) ring (sym (ap (λ l. slice_get l client) is) ∙ at) in
      absurd (subst (λ (b : Buffer (Answer N)). Has x b.items) new has)

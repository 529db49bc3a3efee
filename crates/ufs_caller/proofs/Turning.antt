-- A turn that readies a request and then sends it.
use Rattle.std.proofs.Common.{ℕ, ◌≤◌, ◌≡◌, inl, inr, Bool, true, false, [], ◌∷◌, length, Option, Some, None, sym, ap, ◌∙◌, subst}
use Rattle.ufs_hints.specs.Hints.{Pairs}
use Rattle.ufs_model.specs.declared.data.Actor.{Actor}
use Rattle.ufs_msg.specs.Answers.{Sent}
use Rattle.ufs_msg.specs.Requests.{Asked}
use Rattle.ufs_msg.specs.There.{MayServe}
use Rattle.ufs_msg.specs.declared.answer.Answer.{Answer}
use Rattle.ufs_msg.specs.declared.answer.Answer.TheVariants as answer
use Rattle.ufs_caller.specs.Callers.{Caller, Errand, IsAskBy, file_asked}
use Rattle.ufs_caller.specs.Turns.{AreRenewed, IsTry, IsTurn, Sends, SendsOn, TriesAgain}
use Rattle.ufs_caller.specs.declared.turn.Turn.{Turn}
use Rattle.ufs_caller.specs.declared.turn.Turn.TheVariants as turn
use Rattle.ufs_caller.proofs.Places.{some_same}

true_false : true ≡ false → ⊥
true_false e = cc

-- a new request
module _ (to : Actor) (r : Asked) (a m : Caller) (s : Sends to r (Some r) a m) (to' : Actor) (r' : Asked) (kept : Option Asked) (again : Bool) (b : Caller) (t : TriesAgain to' r' kept again m b) where
  abbrev ready : Errand
  ready = record { request = s.request; to = to; via = []; kept = Some r; is_again = false }

  e_is : ready ≡ t.e
  e_is = some_same ready t.e (sym s.errand ∙ t.errand)

  to_is : to ≡ to'
  to_is = ap (λ (e : Errand). e.to) e_is ∙ t.to_is

  r_is : r ≡ r'
  r_is = some_same r r' (ap (λ (e : Errand). e.kept) e_is ∙ t.was_kept)

  pub is_first : again ≡ false
  is_first = sym (ap (λ (e : Errand). e.is_again) e_is ∙ t.was_again)

  pub sends : Sends to' r' kept a b
  sends = record {
    idle = s.idle;
    request = s.request;
    next = s.next ∙ ap (λ (c : Caller). s.request ∷ c.left) (sym t.all);
    needs = s.needs;
    ask = subst (λ (x : Asked). IsAskBy a.number (length a.told) a.fds s.request x.ask) r_is s.ask;
    server = sym to_is ∙ s.server;
    errand = ap (λ (c : Caller). c.errand) t.all ∙ (λ i. Some (record (sym e_is i) { kept = kept })) ∙ (λ i. Some (record { request = s.request; to = to_is i; via = []; kept = kept; is_again = false }));
    hints = ap (λ (c : Caller). c.hints) t.all ∙ s.hints;
    later = subst (λ (n : ℕ). a.seen ≤ n) (sym (ap (λ (c : Caller). c.seen) t.all)) s.later;
    told = ap (λ (c : Caller). c.told) t.all ∙ s.told;
    fds = ap (λ (c : Caller). c.fds) t.all ∙ s.fds;
  }

-- a request that a server sent on
module _ (x : Sent) (r : Asked) (a m : Caller) (s : SendsOn x r (Some r) a m) (to' : Actor) (r' : Asked) (kept : Option Asked) (again : Bool) (b : Caller) (t : TriesAgain to' r' kept again m b) where
  abbrev ready_on : Errand
  ready_on = record { request = s.e.request; to = x.to; via = s.via; kept = Some r; is_again = true }

  on_is : ready_on ≡ t.e
  on_is = some_same ready_on t.e (sym s.errand' ∙ t.errand)

  pub to_on : x.to ≡ to'
  to_on = ap (λ (e : Errand). e.to) on_is ∙ t.to_is

  r_on : r ≡ r'
  r_on = some_same r r' (ap (λ (e : Errand). e.kept) on_is ∙ t.was_kept)

  pub is_later : again ≡ true
  is_later = sym (ap (λ (e : Errand). e.is_again) on_is ∙ t.was_again)

  pub sends_further : SendsOn x r' kept a b
  sends_further = record {
    e = s.e;
    errand = s.errand;
    sent = s.sent;
    same = ap (λ (y : Asked). y.ask) (sym r_on) ∙ s.same;
    ask = subst (λ (y : Asked). IsAskBy a.number (length a.told) a.fds s.e.request y.ask) r_on s.ask;
    may = subst (λ (y : Asked). MayServe x.to y.ask) r_on s.may;
    via = s.via;
    listed = s.listed;
    errand' = ap (λ (c : Caller). c.errand) t.all ∙ (λ i. Some (record (sym on_is i) { kept = kept }));
    hints = subst (λ (h : Pairs). AreRenewed (file_asked a.fds s.e.request) x.to a.hints h) (sym (ap (λ (c : Caller). c.hints) t.all)) s.hints;
    seen = ap (λ (c : Caller). c.seen) t.all ∙ s.seen;
    told = ap (λ (c : Caller). c.told) t.all ∙ s.told;
    left = ap (λ (c : Caller). c.left) t.all ∙ s.left;
    fds = ap (λ (c : Caller). c.fds) t.all ∙ s.fds;
  }

module _ {P N : Type 0} (asks : P → Actor → Asked → P → Type 0) (gets : P → Answer N → P → Type 0) (same : P → P → Type 0) (full : P → Actor → Type 0) (empty : P → Type 0) (since upto : ℕ) (a m b : Caller) where
  pub sent_turn : (p q : P) (t : Turn) (to : Actor) (r : Asked) → Sends to r (Some r) a m → IsTry asks gets same full empty p q m t b → IsTurn asks gets same full empty since upto p q a t b
  sent_turn p q (turn.Sent to') to r s t = inl (t.0, sends to r a m s to' t.0 None false b t.1, t.2)
  sent_turn p q (turn.Resent to') to r s t = absurd (true_false (is_first to r a m s to' t.0 None true b t.1))
  sent_turn p q (turn.Full to') to r s t = inl (t.1.0, sends to r a m s to' t.1.0 (Some t.1.0) t.0 b t.1.1, t.1.2)
  sent_turn p q turn.Local to r s t = absurd t
  sent_turn p q turn.Told to r s t = absurd t
  sent_turn p q turn.Waiting to r s t = absurd t
  sent_turn p q turn.Done to r s t = absurd t

  pub resent_turn : (p between q : P) (t : Turn) (x : Sent) (r : Asked) → gets p (answer.Redirect x) between → SendsOn x r (Some r) a m → IsTry asks gets same full empty between q m t b → IsTurn asks gets same full empty since upto p q a t b
  resent_turn p between q (turn.Sent to') x r got s t = absurd (true_false (sym (is_later x r a m s to' t.0 None false b t.1)))
  resent_turn p between q (turn.Resent to') x r got s t = inl (x, t.0, between, got, to_on x r a m s to' t.0 None true b t.1, sends_further x r a m s to' t.0 None true b t.1, t.2)
  resent_turn p between q (turn.Full to') x r got s t = inr (inl (x, t.1.0, between, got, to_on x r a m s to' t.1.0 (Some t.1.0) t.0 b t.1.1, sends_further x r a m s to' t.1.0 (Some t.1.0) t.0 b t.1.1, t.1.2))
  resent_turn p between q turn.Local x r got s t = absurd t
  resent_turn p between q turn.Told x r got s t = absurd t
  resent_turn p between q turn.Waiting x r got s t = absurd t
  resent_turn p between q turn.Done x r got s t = absurd t

  pub tried_turn : (p q : P) (t : Turn) → IsTry asks gets same full empty p q a t b → IsTurn asks gets same full empty since upto p q a t b
  tried_turn p q (turn.Sent to') t = inr t
  tried_turn p q (turn.Resent to') t = inr t
  tried_turn p q (turn.Full to') t = inr (inr t)
  tried_turn p q turn.Local t = absurd t
  tried_turn p q turn.Told t = absurd t
  tried_turn p q turn.Waiting t = absurd t
  tried_turn p q turn.Done t = absurd t

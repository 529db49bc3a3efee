-- Who asks no new request.
use Rattle.std.proofs.Common.{◌≡◌, inl, inr, ℕ, zero, suc, ◌<◌, ◌⊎◌, ⊎_elim, is_some, List, [], ◌∷◌, length, set, slice_get, Option, None, Some, IsSome, refl, ap, sym, ◌∙◌, subst, true≢false, arith}
use Rattle.std.proofs.lemmas.Option.{slice_get_within}
use Rattle.ufs_caller.proofs.Places.{some_same}
use Rattle.ufs_caller.specs.Callers.{Caller, Errand}
use Rattle.ufs_caller.specs.declared.turn.Turn.{Turn}
use Rattle.ufs_caller.specs.declared.turn.Turn.TheVariants as turn
use Rattle.ufs_model.specs.declared.data.Op.{Op}
use Rattle.ufs_msg.proofs.Places.{get_set, set_same}
use Rattle.ufs_rounds.specs.Rest.{AreIdle, ClientsHad, HasAskedNone, IsOverAt, IsQuietRound, NobodyAsked, StaysBut}
use Rattle.ufs_rounds.specs.Rings.{Rings}
use Rattle.ufs_rounds.specs.Steps.{Step}
use Rattle.ufs_rounds.specs.Turns.{IsCallerTurn, IsClientTurn}

-- what was put stands there
pub set_there : {A : Type 0} (xs : List A) (i : ℕ) (w x : A) → slice_get xs i ≡ Some w → slice_get (set xs i x) i ≡ Some x
set_there [] i w x at = absurd (no at)
  where
    no : None ≡ Some w → ⊥
    no e = cc
set_there (y ∷ ys) zero w x at = refl
set_there (y ∷ ys) (suc i) w x at = set_there ys i w x at

-- none is under way, and one is
clash : {X : Type 0} (o : Option Errand) (e : Errand) → o ≡ None → o ≡ Some e → X
clash o e none some = absurd (no (sym none ∙ some))
  where
    no : None ≡ Some e → ⊥
    no e' = cc

pub same_asked : (c : Caller) → HasAskedNone c c
same_asked c = record { left = refl; still = λ _. refl }

pub nobody_self : (clients : List Caller) → NobodyAsked clients clients
nobody_self clients place d at = (d, at, same_asked d)

pub nobody_same : (old new : List Caller) → new ≡ old → NobodyAsked old new
nobody_same old new is = subst (NobodyAsked old) (sym is) (nobody_self old)

pub nobody_then : (a b c : List Caller) → NobodyAsked a b → NobodyAsked b c → NobodyAsked a c
nobody_then a b c ab bc place z at =
    let y = bc place z at in
    let x = ab place y.0 y.1 in
    (x.0, x.1, record { left = y.2.left ∙ x.2.left; still = λ idle. let same = x.2.still idle in y.2.still (ap (λ (w : Caller). w.errand) same ∙ idle) ∙ same })

pub but_then : (client : ℕ) (a b c : List Caller) → StaysBut client a b → NobodyAsked b c → StaysBut client a c
but_then client a b c ab bc place z other at =
    let y = bc place z at in
    let x = ab place y.0 other y.1 in
    (x.0, x.1, record { left = y.2.left ∙ x.2.left; still = λ idle. let same = x.2.still idle in y.2.still (ap (λ (w : Caller). w.errand) same ∙ idle) ∙ same })

pub but_more : (client : ℕ) (a b c : List Caller) → StaysBut client a b → StaysBut client b c → StaysBut client a c
but_more client a b c ab bc place z other at =
    let y = bc place z other at in
    let x = ab place y.0 other y.1 in
    (x.0, x.1, record { left = y.2.left ∙ x.2.left; still = λ idle. let same = x.2.still idle in y.2.still (ap (λ (w : Caller). w.errand) same ∙ idle) ∙ same })

-- ---- a client's turn

module _ {N : Type 0} (since upto : ℕ) (p q : Rings N) (a b : Caller) where
  -- with a request under way it asks no new one
  left_same : (o : Turn) → IsCallerTurn since upto p q o a b → (e : Errand) → a.errand ≡ Some e → b.left ≡ a.left
  left_same (turn.Sent to) (inl h) e is = clash a.errand e h.1.idle is
  left_same (turn.Sent to) (inr h) e is = ap (λ (c : Caller). c.left) h.1.all
  left_same (turn.Resent to) (inl h) e is = h.5.left
  left_same (turn.Resent to) (inr h) e is = ap (λ (c : Caller). c.left) h.1.all
  left_same turn.Local h e is = clash a.errand e h.0.idle is
  left_same turn.Told h e is = h.2.left
  left_same (turn.Full to) (inl h) e is = clash a.errand e h.1.idle is
  left_same (turn.Full to) (inr (inl h)) e is = h.5.left
  left_same (turn.Full to) (inr (inr h)) e is = ap (λ (c : Caller). c.left) h.1.1.all
  left_same turn.Waiting h e is = ap (λ (c : Caller). c.left) h.0.all
  left_same turn.Done h e is = ap (λ (c : Caller). c.left) h.0.all

  fewer : (request : Op) (left rest : List Op) → left ≡ request ∷ rest → length rest < length left
  fewer request left rest is = let long = ap (λ (l : List Op). length l) is in omega (arith, long)

  -- with none it asks the next one, where it isn't done
  pub asks_next : (o : Turn) → IsCallerTurn since upto p q o a b → a.errand ≡ None → (o ≡ turn.Done → ⊥) → length b.left < length a.left
  asks_next (turn.Sent to) (inl h) idle more = fewer h.1.request a.left b.left h.1.next
  asks_next (turn.Sent to) (inr h) idle more = clash a.errand h.1.e idle h.1.errand
  asks_next (turn.Resent to) (inl h) idle more = clash a.errand h.5.e idle h.5.errand
  asks_next (turn.Resent to) (inr h) idle more = clash a.errand h.1.e idle h.1.errand
  asks_next turn.Local h idle more = fewer h.0.request a.left b.left h.0.next
  asks_next turn.Told h idle more = clash a.errand h.2.e idle h.2.errand
  asks_next (turn.Full to) (inl h) idle more = fewer h.1.request a.left b.left h.1.next
  asks_next (turn.Full to) (inr (inl h)) idle more = clash a.errand h.5.e idle h.5.errand
  asks_next (turn.Full to) (inr (inr h)) idle more = clash a.errand h.1.1.e idle h.1.1.errand
  asks_next turn.Waiting h idle more = clash a.errand h.0.e idle h.0.errand
  asks_next turn.Done h idle more = absurd (more refl)

module _ {N : Type 0} {since upto : ℕ} (number : ℕ) (old new : List Caller) (p q : Rings N) (o : Turn) (h : IsClientTurn since upto number old new p q o) where
  -- who stands there now
  pub there_now : (place : ℕ) (d : Caller) → slice_get new place ≡ Some d → ((place ≡ number) × (h.goes.is ≡ d)) ⊎ (slice_get old place ≡ Some d)
  there_now place d at = get_set old number place h.goes.is d (sym (ap (λ (l : List Caller). slice_get l place) h.goes.stands) ∙ at)

  pub but_client : StaysBut number old new
  but_client place d other at = ⊎_elim (λ (e : (place ≡ number) × (h.goes.is ≡ d)). absurd (other e.0)) (λ was. (d, was, same_asked d)) (there_now place d at)

  -- one that has a request under way asks no new one
  pub client_asked : (e : Errand) → ((c : Caller) → slice_get old number ≡ Some c → c.errand ≡ Some e) → NobodyAsked old new
  client_asked e asks place d at = ⊎_elim changed (λ was. (d, was, same_asked d)) (there_now place d at)
    where
      one : h.goes.was.errand ≡ Some e
      one = asks h.goes.was h.goes.stood

      changed : (place ≡ number) × (h.goes.is ≡ d) → (c : Caller) × (slice_get old place ≡ Some c) × HasAskedNone c d
      changed x = (
        h.goes.was,
        ap (slice_get old) x.0 ∙ h.goes.stood,
        record {
          left = ap (λ (c : Caller). c.left) (sym x.1) ∙ left_same since upto h.lent q h.goes.was h.goes.is o h.goes.goes e one;
          still = λ idle. clash h.goes.was.errand e idle one;
        },
      )

  -- one that is done is as it was
  pub done_same : o ≡ turn.Done → (new ≡ old) × IsOverAt number old
  done_same is = by (subst (λ (t : Turn). IsCallerTurn since upto h.lent q t h.goes.was h.goes.is) is h.goes.goes)
    where
      by : IsCallerTurn since upto h.lent q turn.Done h.goes.was h.goes.is → (new ≡ old) × IsOverAt number old
      by g = (
        h.goes.stands ∙ ap (λ (c : Caller). set old number c) g.0.all ∙ set_same old number h.goes.was h.goes.stood,
        λ c at. let same = some_same c h.goes.was (sym at ∙ h.goes.stood) in subst (λ (x : Caller). (x.errand ≡ None) × (x.left ≡ [])) (sym same) (g.0.idle, g.0.left),
      )

-- ---- how many requests are left

abbrev pub left_in : Option Caller → ℕ
left_in None = 0
left_in (Some c) = length c.left

abbrev pub left_at : List Caller → ℕ → ℕ
left_at clients client = left_in (slice_get clients client)

-- Where nobody asked since, fewer are left than before it asked.
module _ {N : Type 0} {since upto : ℕ} (number : ℕ) (old new then : List Caller) (p q : Rings N) (o : Turn) (h : IsClientTurn since upto number old new p q o) where
  pub left_fewer : AreIdle old → (o ≡ turn.Done → ⊥) → NobodyAsked new then → left_at then number < left_at old number
  left_fewer idle more asked = subst (λ (n : ℕ). left_at then number < n) (sym (ap left_in h.goes.stood)) (by (slice_get then number) refl)
    where
      less : length h.goes.is.left < length h.goes.was.left
      less = asks_next since upto h.lent q h.goes.was h.goes.is o h.goes.goes (idle number h.goes.was h.goes.stood) more

      by : (c : Option Caller) → slice_get then number ≡ c → left_in (slice_get then number) < length h.goes.was.left
      by None at = subst (λ (c : Option Caller). left_in c < length h.goes.was.left) (sym at) (omega (arith, less))
      by (Some d) at =
          let c = asked number d at in
          let long = ap (λ (l : List Op). length l) c.2.left in
          let now = ap (λ (l : List Caller). slice_get l number) h.goes.stands ∙ set_there old number h.goes.was h.goes.is h.goes.stood in
          let same = ap (λ (x : Caller). length x.left) (some_same c.0 h.goes.is (sym c.1 ∙ now)) in
          subst (λ (x : Option Caller). left_in x < length h.goes.was.left) (sym at) (omega (arith, long, same, less))

-- ---- a round

module _ (workers : ℕ) (old new : List Caller) (asked : NobodyAsked old new) where
  -- one that has a request under way had it before
  had_one : (place : ℕ) (d : Caller) → slice_get new place ≡ Some d → IsSome d.errand → (c : Caller) × (slice_get old place ≡ Some c) × IsSome c.errand
  had_one place d at some =
      let c = asked place d at in
      (c.0, c.1, by c.0.errand (λ idle. ap (λ (x : Caller). x.errand) (c.2.still idle) ∙ idle))
    where
      by : (o : Option Errand) → (o ≡ None → d.errand ≡ None) → IsSome o
      by None still = absurd (true≢false (sym some ∙ ap (λ (x : Option Errand). is_some x) (still refl)))
      by (Some e) still = refl

  pub clients_later : (steps : List Step) → ClientsHad (length old) old steps → ClientsHad (length new) new steps
  clients_later steps had place d low at some = let c = had_one place d at some in had place c.0 (slice_get_within old place c.0 c.1) c.1 c.2

  pub quiet_later : (steps : List Step) → IsQuietRound workers old steps → IsQuietRound workers new steps
  quiet_later steps q = record {
    turns = record { workers_had = q.turns.workers_had; primary_had = q.turns.primary_had; clients_had = clients_later steps q.turns.clients_had };
    quiet = q.quiet;
  }

-- Steps that go on to the end, or until rounds come to no rest.
use Rattle.std.proofs.Common.{◌≡◌, inl, inr, ℕ, suc, ◌+◌, ◌≤◌, ◌<◌, true, false, List, [], ◌∷◌, ◌++◌, map, slice_get, Option, Some, None, Result, Ok, Err, refl, ap, sym, ◌∙◌, subst, true≢false, arith}
use native.Mathlib.Decide.{dec_le}
use Rattle.ufs_caller.specs.Callers.{Caller}
use Rattle.ufs_caller.specs.declared.turn.Turn.{Turn}
use Rattle.ufs_caller.specs.declared.turn.Turn.TheVariants as turn
use Rattle.ufs_joint.specs.Cells.{Start}
use Rattle.ufs_model.specs.declared.data.Actor.{Actor}
use Rattle.ufs_model.specs.declared.data.Actor.TheVariants as actor
use Rattle.ufs_primary.specs.Primary.{PrimaryState}
use Rattle.ufs_rounds.specs.Moves.{client_done, says_done}
use Rattle.ufs_rounds.specs.Rest.{GoesOn, HasSettled, HaveTurns, IsAtRest, IsInOrder, IsItsTime, IsOnlyHeard, IsOverAt, NobodyAsked, StaysBut}
use Rattle.ufs_rounds.specs.Steps.{AreStepsWhere, CallOf, Step, TurnOf}
use Rattle.ufs_rounds.specs.Turns.{GlobalState, IsTurnOf}
use Rattle.ufs_rounds.specs.declared.rounds.Unfinished.{Unfinished}
use Rattle.ufs_rounds.specs.declared.turned.Turned.{Turned}
use Rattle.ufs_rounds.specs.declared.turned.Turned.TheVariants as turned
use Rattle.ufs_rounds.proofs.Asking.{but_client, but_more, done_same, left_at, left_fewer}
use Rattle.ufs_rounds.proofs.Making.{of_client}
use Rattle.ufs_rounds.proofs.StepLemmas.{one_step, one_where, steps_then, turns_next, where_then, where_too}

-- ---- a client that says that it is done

is_done : (said : Turn) → client_done said ≡ true → said ≡ turn.Done
is_done (turn.Sent to) e = absurd (true≢false (sym e))
is_done (turn.Resent to) e = absurd (true≢false (sym e))
is_done turn.Local e = absurd (true≢false (sym e))
is_done turn.Told e = absurd (true≢false (sym e))
is_done (turn.Full to) e = absurd (true≢false (sym e))
is_done turn.Waiting e = absurd (true≢false (sym e))
is_done turn.Done e = refl

not_done : (said : Turn) (o : Turned) → o ≡ turned.Client said → says_done o ≡ false → said ≡ turn.Done → ⊥
not_done said o is none done = true≢false (sym (ap client_done done) ∙ sym (ap says_done is) ∙ none)

-- ---- steps

-- who is only heard asks nothing
in_order : {N : Type 0} (m : Step) (s : GlobalState N) → IsOnlyHeard m s → IsInOrder m s
in_order (TurnOf (actor.Client client) o) s heard = inl heard
in_order (TurnOf (actor.Worker worker) o) s heard = tt
in_order (TurnOf actor.Primary o) s heard = tt
in_order (CallOf file o) s heard = tt

module _ {N : Type 0} (k : Start) where
  -- steps were made from one state to the other, in which clients asked in order
  abbrev pub Leads : GlobalState N → GlobalState N → Type 0
  Leads s t = (steps : List Step) × AreStepsWhere k IsInOrder steps s t

  pub leads_then : (s u t : GlobalState N) → Leads s u → Leads u t → Leads s t
  leads_then s u t a b = (a.0 ++ b.0, where_then k IsInOrder a.0 b.0 s u t a.1 b.1)

  pub leads_settled : (s t : GlobalState N) (r : Result (Unit {0}) Unfinished) → HasSettled k s t r → Leads s t
  leads_settled s t r h = (
    h.calls.calls ++ h.rounds,
    where_too k IsOnlyHeard IsInOrder in_order (h.calls.calls ++ h.rounds) s t (where_then k IsOnlyHeard h.calls.calls h.rounds s h.called t h.calls.steps h.steps),
  )

  -- to the end
  pub ends_well : (s t : GlobalState N) → Leads s t → GoesOn k s t (Ok tt)
  ends_well s t a = record { more = a.0; then = t; steps = a.1; ends = refl }

  pub leads_on : (s t : GlobalState N) → GoesOn k s t (Ok tt) → Leads s t
  leads_on s t g = (g.more, subst (AreStepsWhere k IsInOrder g.more s) (sym g.ends) g.steps)

  -- or until rounds came to no rest
  pub ends_unrested : (s u t : GlobalState N) (why : Unfinished) → Leads s u → HasSettled k u t (Err why) → GoesOn k s t (Err why)
  ends_unrested s u t why a h = record { more = a.0; then = u; steps = a.1; ends = h }

  -- after steps that were made before
  pub goes_then : (s u t : GlobalState N) (r : Result (Unit {0}) Unfinished) → Leads s u → GoesOn k u t r → GoesOn k s t r
  goes_then s u t r a g = record { more = a.0 ++ g.more; then = g.then; steps = where_then k IsInOrder a.0 g.more s u g.then a.1 g.steps; ends = g.ends }

-- ---- the turn of a client that asks what it has left

module _ {N : Type 0} (k : Start) (s t : GlobalState N) (client : ℕ) (o : Turned) (h : IsTurnOf k (actor.Client client) s t o) where
  pub turn_leads : IsItsTime client s → Leads k s t
  turn_leads time = (TurnOf (actor.Client client) o ∷ [], one_where k IsInOrder (TurnOf (actor.Client client) o) s t (inr time) h)

  primary_same : t.primary ≡ s.primary
  primary_same = ap (λ (x : GlobalState N). x.primary) (of_client k s t client o h).rest

  pub but_turn : (first : List Caller) → StaysBut client first s.clients → StaysBut client first t.clients
  but_turn first but =
      let of = of_client k s t client o h in
      but_more client first s.clients t.clients but (but_client client s.clients t.clients s.rings t.rings of.said of.turn)

  done_here : says_done o ≡ true → (t.clients ≡ s.clients) × IsOverAt client s.clients
  done_here says =
      let of = of_client k s t client o h in
      done_same client s.clients t.clients s.rings t.rings of.said of.turn (is_done of.said (sym (ap says_done of.is) ∙ says))

  pub done_over : says_done o ≡ true → IsOverAt client t.clients
  done_over says = let d = done_here says in subst (IsOverAt client) (sym d.0) d.1

  pub done_rest : says_done o ≡ true → IsAtRest s.clients s.primary → IsAtRest t.clients t.primary
  done_rest says rest = let d = done_here says in subst (λ (x : List Caller × PrimaryState). IsAtRest x.0 x.1) (λ i. (sym d.0 i, sym primary_same i)) rest

  -- where it isn't done, it has fewer left behind the rounds
  pub fewer_left : (then : List Caller) → says_done o ≡ false → IsAtRest s.clients s.primary → NobodyAsked t.clients then → left_at then client < left_at s.clients client
  fewer_left then says rest asked =
      let of = of_client k s t client o h in
      left_fewer client s.clients t.clients then s.rings t.rings of.said of.turn rest.idle (not_done of.said o of.is says) asked

-- ---- each client in order

-- what is over stays so, where another client asks
pub over_still : (client place : ℕ) (old new : List Caller) → StaysBut client old new → (place ≡ client → ⊥) → IsOverAt place old → IsOverAt place new
over_still client place old new but other over d at =
    let c = but place d other at in
    let was = over c.0 c.1 in
    let same = c.2.still was.0 in
    (ap (λ (x : Caller). x.errand) same ∙ was.0, c.2.left ∙ was.1)

-- so are those before it
pub before_still : (client : ℕ) (old new : List Caller) → StaysBut client old new → ((place : ℕ) → place < client → IsOverAt place old) → (place : ℕ) → place < client → IsOverAt place new
before_still client old new but over place low = over_still client place old new but (λ same. absurd (omega (arith, same, low))) (over place low)

-- what is over of the first ones
abbrev pub AreOverBelow : ℕ → List Caller → Type 0
AreOverBelow count clients = (place : ℕ) (c : Caller) → place < count → slice_get clients place ≡ Some c → (c.errand ≡ None) × (c.left ≡ [])

-- and of one more, which asked what it had left
pub over_next : (count client : ℕ) (old new : List Caller) → client ≡ count → StaysBut client old new → IsOverAt client new → AreOverBelow count old → AreOverBelow (count + 1) new
over_next count client old new is but one all place d low at = by (dec_le (suc place) count)
  where
    by : Dec (suc place ≤ count) → (d.errand ≡ None) × (d.left ≡ [])
    by (yes below) = over_still client place old new but (λ same. absurd (omega (arith, same, is, below))) (λ c was. all place c below was) d at
    by (no over) =
        let same : place ≡ client = omega (arith, is, low, over) in
        one d (ap (slice_get new) (sym same) ∙ at)

-- ---- turns of a schedule

module _ {N : Type 0} (k : Start) (s t u : GlobalState N) where
  pub next_turn : (actors more : List Actor) (who : Actor) (o : Turned) → HaveTurns k actors s t → IsTurnOf k who t u o → more ≡ actors ++ who ∷ [] → HaveTurns k more s u
  next_turn actors more who o had is all = record {
    turns = had.turns ++ TurnOf who o ∷ [];
    are = turns_next had.turns (TurnOf who o) actors who refl had.are ∙ (λ i. map {B = Option Actor} Some (sym all i));
    steps = steps_then k had.turns (TurnOf who o ∷ []) s t u had.steps (one_step k (TurnOf who o) t u is);
  }

-- Turns that were made, and one more.
use Rattle.std.proofs.Common.{◌≡◌, ℕ, suc, ◌+◌, ◌≤◌, ⊎_elim, inl, false, is_some, List, [], ◌∷◌, ◌++◌, length, slice_get, None, Some, refl, ap, sym, ◌∙◌, subst, true≢false, arith}
use native.Mathlib.Decide.{dec_le}
use Rattle.std.specs.Prelude.{◌||◌}
use Rattle.ufs_caller.specs.Callers.{Caller}
use Rattle.ufs_caller.specs.declared.turn.Turn.{Turn}
use Rattle.ufs_joint.specs.Cells.{Start}
use Rattle.ufs_model.specs.declared.data.Actor.{Actor}
use Rattle.ufs_model.specs.declared.data.Actor.TheVariants as actor
use Rattle.ufs_msg.specs.There.{worker_count}
use Rattle.ufs_rounds.specs.Moves.{first_lack, is_move, lack_in}
use Rattle.ufs_rounds.specs.Rest.{ClientsHad, IsOnlyHeard, NobodyAsked, WorkersHad}
use Rattle.ufs_rounds.specs.Rings.{Rings}
use Rattle.ufs_rounds.specs.Rounds.{MakesRound, MakesTurns}
use Rattle.ufs_rounds.specs.Steps.{HadTurn, Step, TurnOf, lack_told, some_moved}
use Rattle.ufs_rounds.specs.Turns.{GlobalState, IsClientTurn, IsTurnOf}
use Rattle.ufs_rounds.specs.declared.moves.RoundEnd.{RoundEnd}
use Rattle.ufs_rounds.specs.declared.turned.Turned.{Turned}
use Rattle.ufs_rounds.specs.declared.turned.Turned.TheVariants as turned
use Rattle.ufs_rounds.proofs.Asking.{nobody_same, nobody_self, nobody_then, there_now}
use Rattle.ufs_rounds.proofs.StepLemmas.{first_none, had_before, had_behind, moved_more, one_where, or_false, told_more, where_then}

-- ---- whose turn it was

module _ {N : Type 0} (k : Start) (s t : GlobalState N) where
  pub worker_still : (number : ℕ) (o : Turned) → IsTurnOf k (actor.Worker number) s t o → t.clients ≡ s.clients
  worker_still number (turned.Client o) h = absurd h
  worker_still number (turned.Worker o) h = ap (λ (x : GlobalState N). x.clients) h.1
  worker_still number (turned.Primary o) h = absurd h

  pub primary_still : (o : Turned) → IsTurnOf k actor.Primary s t o → t.clients ≡ s.clients
  primary_still (turned.Client o) h = absurd h
  primary_still (turned.Worker o) h = absurd h
  primary_still (turned.Primary o) h = ap (λ (x : GlobalState N). x.clients) h.1

  -- a client's turn, and what it said
  pub record IsOfClient (number : ℕ) (o : Turned) : Type 0 where
    pub said : Turn
    pub is : o ≡ turned.Client said
    pub turn : IsClientTurn s.seen t.seen number s.clients t.clients s.rings t.rings said
    pub rest : t ≡ record s { clients = t.clients; rings = t.rings; seen = t.seen }

  pub of_client : (number : ℕ) (o : Turned) → IsTurnOf k (actor.Client number) s t o → IsOfClient number o
  of_client number (turned.Client o) h = record { said = o; is = refl; turn = h.0; rest = h.1 }
  of_client number (turned.Worker o) h = absurd h
  of_client number (turned.Primary o) h = absurd h

-- ---- turns

module _ {N : Type 0} (k : Start) (s : GlobalState N) where
  pub no_turns : (so : List Step → Type 0) (r : RoundEnd) → so [] → MakesTurns k so s s r r
  no_turns so r none = record { steps = []; lead = refl; are = none; asked = nobody_self s.clients; moved = sym (or_false r.moved); lack = sym (first_none r.lack) }

  module _ (so then : List Step → Type 0) (t u : GlobalState N) (was mid is : RoundEnd) (who : Actor) (o : Turned) where
    pub turn_more : MakesTurns k so s t was mid → IsOnlyHeard (TurnOf who o) t → IsTurnOf k who t u o → NobodyAsked t.clients u.clients → is.moved ≡ (mid.moved || is_move o) → is.lack ≡ first_lack mid.lack (lack_in o)
        → ((steps : List Step) → so steps → then (steps ++ TurnOf who o ∷ [])) → MakesTurns k then s u was is
    turn_more m heard h asked moved lack goes = record {
      steps = m.steps ++ TurnOf who o ∷ [];
      lead = where_then k IsOnlyHeard m.steps (TurnOf who o ∷ []) s t u m.lead (one_where k IsOnlyHeard (TurnOf who o) t u heard h);
      are = goes m.steps m.are;
      asked = nobody_then s.clients t.clients u.clients m.asked asked;
      moved = moved_more was.moved mid.moved is.moved m.steps (TurnOf who o ∷ []) m.moved (moved ∙ (λ i. mid.moved || sym (or_false (is_move o)) i));
      lack = told_more was.lack mid.lack is.lack m.steps (TurnOf who o ∷ []) m.lack (lack ∙ (λ i. first_lack mid.lack (sym (first_none (lack_in o)) i)));
    }

  -- the same of which more is so
  pub turns_so : (so then : List Step → Type 0) (t : GlobalState N) (was is : RoundEnd) → MakesTurns k so s t was is → ((steps : List Step) → so steps → then steps) → MakesTurns k then s t was is
  turns_so so then t was is m goes = record { steps = m.steps; lead = m.lead; are = goes m.steps m.are; asked = m.asked; moved = m.moved; lack = m.lack }

had_one : (who : Actor) (o : Turned) → HadTurn who (TurnOf who o ∷ [])
had_one who o = inl refl

pub workers_next : (place number : ℕ) (o : Turned) (steps : List Step) → number ≡ place + 1 → WorkersHad place steps → WorkersHad (place + 1) (steps ++ TurnOf (actor.Worker number) o ∷ [])
workers_next place number o steps is had worker low high = by (dec_le worker place)
  where
    by : Dec (worker ≤ place) → HadTurn (actor.Worker worker) (steps ++ TurnOf (actor.Worker number) o ∷ [])
    by (yes below) = had_before (actor.Worker worker) steps (TurnOf (actor.Worker number) o ∷ []) (had worker low below)
    by (no over) =
        let same : number ≡ worker = omega (arith, is, high, over) in
        subst (λ (n : ℕ). HadTurn (actor.Worker n) (steps ++ TurnOf (actor.Worker number) o ∷ [])) same (had_behind (actor.Worker number) steps (TurnOf (actor.Worker number) o ∷ []) (had_one (actor.Worker number) o))

-- the client at this place had its turn
pub clients_next : {N : Type 0} {since upto : ℕ} (place number : ℕ) (old new : List Caller) (p q : Rings N) (said : Turn) (o : Turned) (steps : List Step) → number ≡ place → IsClientTurn since upto number old new p q said
    → ClientsHad place old steps → ClientsHad (place + 1) new (steps ++ TurnOf (actor.Client number) o ∷ [])
clients_next place number old new p q said o steps is h had i d low at some = by (dec_le (suc i) place)
  where
    by : Dec (suc i ≤ place) → HadTurn (actor.Client i) (steps ++ TurnOf (actor.Client number) o ∷ [])
    by (yes below) = ⊎_elim
        (λ (e : (i ≡ number) × (h.goes.is ≡ d)). let same = e.0 in absurd (omega (arith, same, is, below)))
        (λ was. had_before (actor.Client i) steps (TurnOf (actor.Client number) o ∷ []) (had i d below was some))
        (there_now number old new p q said h i d at)
    by (no over) =
        let same : number ≡ i = omega (arith, is, low, over) in
        subst (λ (n : ℕ). HadTurn (actor.Client n) (steps ++ TurnOf (actor.Client number) o ∷ [])) same (had_behind (actor.Client number) steps (TurnOf (actor.Client number) o ∷ []) (had_one (actor.Client number) o))

-- it has no request under way
pub clients_skip : (place : ℕ) (c : Caller) (clients : List Caller) (steps : List Step) → slice_get clients place ≡ Some c → is_some c.errand ≡ false → ClientsHad place clients steps → ClientsHad (place + 1) clients steps
clients_skip place c clients steps there none had i d low at some = by (dec_le (suc i) place)
  where
    one_value : {A : Type 0} (x y : A) → Some x ≡ Some y → x ≡ y
    one_value x y e = cc

    by : Dec (suc i ≤ place) → HadTurn (actor.Client i) steps
    by (yes below) = had i d below at some
    by (no over) =
        let same : i ≡ place = omega (arith, low, over) in
        let this = one_value d c (sym at ∙ ap (slice_get clients) same ∙ there) in
        absurd (true≢false (sym some ∙ ap (λ (x : Caller). is_some x.errand) this ∙ none))

-- ---- a round

module _ {N : Type 0} (k : Start) (s a b t : GlobalState N) (none first second end : RoundEnd) (o : Turned) where
  pub round_made : MakesTurns k (WorkersHad (worker_count k)) s a none first → IsTurnOf k actor.Primary a b o → second.moved ≡ (first.moved || is_move o) → second.lack ≡ first_lack first.lack (lack_in o)
      → MakesTurns k (ClientsHad (length t.clients) t.clients) b t second end → none.moved ≡ false → none.lack ≡ None → MakesRound k s t end
  round_made w h moved lack c still nothing =
      let p = turn_more k s (WorkersHad (worker_count k)) (λ steps. WorkersHad (worker_count k) steps × HadTurn actor.Primary steps) a b none first second actor.Primary o w tt h (nobody_same a.clients b.clients (primary_still k a b o h)) moved lack
      (λ steps had. (λ worker low high. had_before (actor.Worker worker) steps (TurnOf actor.Primary o ∷ []) (had worker low high), had_behind actor.Primary steps (TurnOf actor.Primary o ∷ []) (had_one actor.Primary o))) in
      record {
        steps = p.steps ++ c.steps;
        lead = where_then k IsOnlyHeard p.steps c.steps s b t p.lead c.lead;
        turns = record {
          workers_had = λ worker low high. had_before (actor.Worker worker) p.steps c.steps (p.are.0 worker low high);
          primary_had = had_before actor.Primary p.steps c.steps p.are.1;
          clients_had = λ place d low at some. had_behind (actor.Client place) p.steps c.steps (c.are place d low at some);
        };
        asked = nobody_then s.clients b.clients t.clients p.asked c.asked;
        moved = moved_more none.moved second.moved end.moved p.steps c.steps p.moved c.moved ∙ (λ i. still i || some_moved (p.steps ++ c.steps));
        lack = told_more none.lack second.lack end.lack p.steps c.steps p.lack c.lack ∙ (λ i. first_lack (nothing i) (lack_told (p.steps ++ c.steps)));
      }

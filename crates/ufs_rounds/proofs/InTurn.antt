-- Without a schedule each client asks all that it was given before the next one does: so the entries stand one client's behind the other's.
use Rattle.std.proofs.Common.{◌≡◌, ◌⊎◌, inl, inr, ℕ, zero, suc, ◌+◌, ◌≤◌, ◌<◌, Bool, true, false, is_some, length, map, set, slice_get, List, [], ◌∷◌, ◌++◌, append_assoc, None, Some, IsSome, Ok, refl, ap, sym, ◌∙◌, subst, true≢false, arith}
use Rattle.std.proofs.lemmas.List.{append-nil}
use Rattle.std.proofs.lemmas.Option.{slice_get_within}
use native.Mathlib.Decide.{dec_le}
use Rattle.circular_buffer.specs.Buffer.{Buffer}
use Rattle.ufs_caller.specs.Callers.{Caller, entries_in}
use Rattle.ufs_caller.specs.declared.turn.Turn.{Turn}
use Rattle.ufs_caller.specs.declared.turn.Turn.TheVariants as turn
use Rattle.ufs_client.specs.Played.{IsMerged}
use Rattle.ufs_hand_laws.specs.Owned.{one}
use Rattle.ufs_joint.specs.Cells.{Start}
use Rattle.ufs_model.specs.History.{joined}
use Rattle.ufs_model.specs.declared.data.Actor.TheVariants as actor
use Rattle.ufs_model.specs.declared.data.Entry.{Entry}
use Rattle.ufs_model.specs.declared.data.Op.{Op}
use Rattle.ufs_msg.specs.declared.answer.Answer.{Answer}
use Rattle.ufs_primary.specs.declared.turn.PrimaryTurn.{PrimaryTurn}
use Rattle.ufs_primary.specs.declared.turn.PrimaryTurn.TheVariants as did
use Rattle.ufs_rounds.specs.Alone.{ServesAlone, asked_by, gone_of}
use Rattle.ufs_rounds.specs.Dealing.{HaveAskedNothing}
use Rattle.ufs_rounds.specs.Drawn.{HasDrawn, IsTimeOf, answered_in}
use Rattle.ufs_rounds.specs.Moves.{client_done}
use Rattle.ufs_rounds.specs.Rest.{IsAtRest, IsInOrder, IsItsTime, IsOverAt, IsPlayed}
use Rattle.ufs_rounds.specs.Scripts.{lists_of}
use Rattle.ufs_rounds.specs.Steps.{AreStepsWhere, CallOf, IsStep, Step, TurnOf, who_in}
use Rattle.ufs_rounds.specs.Turns.{GlobalState, IsClientTurn}
use Rattle.ufs_rounds.specs.declared.turned.Turned.TheVariants as turned
use Rattle.ufs_rounds.proofs.Alone.{length_at, nothing_at, own_one, set_else, some_one}
use Rattle.ufs_rounds.proofs.AloneFirst.{asks_nothing}
use Rattle.ufs_rounds.proofs.AlonePrimary.{HasRested, HasServed, caller_at, primary_did}
use Rattle.ufs_rounds.proofs.AloneRounds.{no_worker, step_then, steps_alone}
use Rattle.ufs_rounds.proofs.Asking.{asks_next, done_same, set_there}
use Rattle.ufs_rounds.proofs.Drawing.{IsToldByItself, IsToldMore, IsToldNothing, answered_push, client_told, drawn_merged, drawn_still, entries_push, itself_told, list_at, more_told, no_answers, nothing_told, served_more}
use Rattle.ufs_rounds.proofs.Entries.{joined_last}
use Rattle.ufs_rounds.proofs.Places.{map_same}

-- ---- lists

map_set : {A B : Type 0} (f : A → B) (xs : List A) (i : ℕ) (x : A) → map f (set xs i x) ≡ set (map f xs) i (f x)
map_set f [] i x = refl
map_set f (y ∷ xs) zero x = refl
map_set f (y ∷ xs) (suc i) x = λ j. f y ∷ map_set f xs i x j

list_of : (clients : List Caller) (i : ℕ) (l : List Entry) → slice_get (lists_of clients) i ≡ Some l → (c : Caller) × (slice_get clients i ≡ Some c) × (entries_in c.told ≡ l)
list_of [] i l at = nothing_at [] i l refl at
list_of (c ∷ clients) zero l at = (c, refl, some_one (entries_in c.told) l at)
list_of (c ∷ clients) (suc i) l at = list_of clients i l at

-- one of three
order : (a b : ℕ) → (a < b) ⊎ ((a ≡ b) ⊎ (b < a))
order a b = by (dec_le (suc a) b) (dec_le (suc b) a)
  where
    by : Dec (suc a ≤ b) → Dec (suc b ≤ a) → (a < b) ⊎ ((a ≡ b) ⊎ (b < a))
    by (yes less) d = inl less
    by (no over) (yes more) = inr (inr more)
    by (no over) (no under) = inr (inl (omega (arith, over, under)))

-- a client without a request under way has no answer on its way
no_answer : {N : Type 0} (k : Start) (s : GlobalState N) → ServesAlone k s → (place : ℕ) (c : Caller) (ring : Buffer (Answer N)) → slice_get s.clients place ≡ Some c → slice_get s.rings.answers place ≡ Some ring → c.errand ≡ None → answered_in ring.items ≡ []
no_answer k s w place c ring at there idle = let once = w.once place c ring at there in let gone = ap gone_of idle in no_answers ring.items (omega (arith, once, gone))

-- ---- what steps come to

-- These were drawn too, and it is this client's time.
pub record HasGoneOn {N : Type 0} (t : GlobalState N) (drawn : List Entry) : Type 0 where
  pub more : List Entry
  pub has : HasDrawn t (drawn ++ more)
  pub client : ℕ
  pub time : IsTimeOf client t (drawn ++ more)

module _ {N : Type 0} (k : Start) (s t : GlobalState N) (w : ServesAlone k s) (drawn : List Entry) (d : HasDrawn s drawn) where
  none_on : (p : ℕ) → HasDrawn t drawn → IsTimeOf p t drawn → HasGoneOn t drawn
  none_on p h time = record { more = []; has = subst (HasDrawn t) (sym (append-nil drawn)) h; client = p; time = subst (IsTimeOf p t) (sym (append-nil drawn)) time }

  time_still : (p : ℕ) → IsTimeOf p s drawn → t.clients ≡ s.clients → t.rings.answers ≡ s.rings.answers → IsTimeOf p t drawn
  time_still p time clients answers = record {
    low = subst (λ (l : List Caller). p < length l) (sym clients) time.low;
    before = λ place low. subst (IsOverAt place) (sym clients) (time.before place low);
    behind = λ place c over at. time.behind place c over (ap (λ (l : List Caller). slice_get l place) (sym clients) ∙ at);
    joins = λ ring at. time.joins ring (ap (λ (l : List (Buffer (Answer N))). slice_get l p) (sym answers) ∙ at) ∙ (λ i. joined (lists_of (sym clients i)) ++ answered_in ring.items);
  }

  -- ---- a client's turn

  module _ (number : ℕ) (said : Turn) (h : IsClientTurn s.seen t.seen number s.clients t.clients s.rings t.rings said) (rest : t ≡ record s { clients = t.clients; rings = t.rings; seen = t.seen }) where
    -- of the client whose time it is
    module _ (time : IsTimeOf number s drawn) where
      low_now : number < length t.clients
      low_now = let l = time.low in let n = ap (length {A = Caller}) h.goes.stands ∙ length_at s.clients number h.goes.is in omega (arith, l, n)

      there : (place : ℕ) (c : Caller) → (place ≡ number → ⊥) → slice_get t.clients place ≡ Some c → slice_get s.clients place ≡ Some c
      there place c not at = sym (ap (λ (l : List Caller). slice_get l place) h.goes.stands ∙ set_else s.clients number place h.goes.is not) ∙ at

      before_now : (place : ℕ) → place < number → IsOverAt place t.clients
      before_now place low c at = time.before place low c (there place c (λ same. absurd (omega (arith, same, low))) at)

      behind_now : (place : ℕ) (c : Caller) → number < place → slice_get t.clients place ≡ Some c → (c.told ≡ []) × (c.errand ≡ None)
      behind_now place c over at = time.behind place c over (there place c (λ same. absurd (omega (arith, same, over))) at)

      -- the lists, with one entry more
      lists_more : (e : Entry) → entries_in h.goes.is.told ≡ entries_in h.goes.was.told ++ e ∷ [] → joined (lists_of t.clients) ≡ joined (lists_of s.clients) ++ e ∷ []
      lists_more e is =
          ap (λ (l : List Caller). joined (lists_of l)) h.goes.stands
          ∙ ap joined (map_set (λ (c : Caller). entries_in c.told) s.clients number h.goes.is)
          ∙ (λ i. joined (set (lists_of s.clients) number (is i)))
          ∙ joined_last (lists_of s.clients) number (entries_in h.goes.was.told) e (list_at s.clients number h.goes.was h.goes.stood)
          (λ i l over at. let c = list_of s.clients i l at in sym c.2 ∙ ap entries_in (time.behind i c.0 over c.1).0)

      lists_same : h.goes.is.told ≡ h.goes.was.told → joined (lists_of t.clients) ≡ joined (lists_of s.clients)
      lists_same told =
          ap (λ (l : List Caller). joined (lists_of l)) h.goes.stands
          ∙ ap joined (map_same (λ (c : Caller). entries_in c.told) s.clients number h.goes.was h.goes.is h.goes.stood (ap entries_in told))

      goes : IsToldNothing s.seen t.seen number s.rings t.rings h.goes.was h.goes.is ⊎ (IsToldMore s.seen t.seen number s.rings t.rings h.goes.was h.goes.is ⊎ IsToldByItself s.seen t.seen number s.rings t.rings h.goes.was h.goes.is) → HasGoneOn t drawn
      goes (inl x) = none_on number (nothing_told k s t w drawn d number said h rest x) (record {
        low = low_now;
        before = before_now;
        behind = behind_now;
        joins = λ ring at. time.joins ring (ap (λ (l : List (Buffer (Answer N))). slice_get l number) (sym x.answers) ∙ at) ∙ (λ i. sym (lists_same x.told) i ++ answered_in ring.items);
      })
      goes (inr (inl x)) = none_on number (more_told k s t w drawn d number said h rest x) (record {
        low = low_now;
        before = before_now;
        behind = behind_now;
        joins = λ ring at.
            let is = some_one x.taken.is ring (sym (ap (λ (l : List (Buffer (Answer N))). slice_get l number) x.taken.stands ∙ set_there s.rings.answers number x.taken.was x.taken.is x.taken.stood) ∙ at) in
            time.joins x.taken.was x.taken.stood
            ∙ (λ i. joined (lists_of s.clients) ++ answered_in (x.taken.so.0 i))
            ∙ sym (append_assoc (joined (lists_of s.clients)) (x.answer.entry ∷ []) (answered_in x.taken.is.items))
            ∙ (λ i. sym (lists_more x.answer.entry (ap entries_in x.told ∙ entries_push h.goes.was.told x.new ∙ (λ j. entries_in h.goes.was.told ++ x.is j ∷ []))) i ++ answered_in x.taken.is.items)
            ∙ (λ i. joined (lists_of t.clients) ++ answered_in (is i).items);
      })
      goes (inr (inr x)) = record {
        more = x.new.entry ∷ [];
        has = itself_told k s t w drawn d number said h rest x;
        client = number;
        time = record {
          low = low_now;
          before = before_now;
          behind = behind_now;
          joins = λ ring at.
              let here = ap (λ (l : List (Buffer (Answer N))). slice_get l number) (sym x.answers) ∙ at in
              let empty = no_answer k s w number h.goes.was ring h.goes.stood here x.idle in
              (λ i. (time.joins ring here ∙ (λ j. joined (lists_of s.clients) ++ empty j) ∙ append-nil (joined (lists_of s.clients))) i ++ x.new.entry ∷ [])
              ∙ sym (lists_more x.new.entry (ap entries_in x.told ∙ entries_push h.goes.was.told x.new))
              ∙ sym (append-nil (joined (lists_of t.clients)))
              ∙ (λ i. joined (lists_of t.clients) ++ sym empty i);
        };
      }

      pub client_on : HasGoneOn t drawn
      client_on = goes (client_told k s t w number said h rest)

    -- the time of the next client that asks
    shifted : (p : ℕ) → IsTimeOf p s drawn → p < number → IsItsTime number s → IsTimeOf number s drawn
    shifted p time low its = record {
      low = slice_get_within s.clients number h.goes.was h.goes.stood;
      before = its.before;
      behind = λ place c over at. time.behind place c (omega (arith, low, over)) at;
      joins = λ ring at.
          let c = caller_at s.clients p time.low in
          let l = time.low in
          let same = w.each in
          let r = caller_at s.rings.answers p (omega (arith, l, same)) in
          let old = no_answer k s w p c.0 r.0 c.1 r.1 (its.before p low c.0 c.1).0 in
          let new = no_answer k s w number h.goes.was ring h.goes.stood at (time.behind number h.goes.was low h.goes.stood).1 in
          time.joins r.0 r.1 ∙ (λ i. joined (lists_of s.clients) ++ (old ∙ sym new) i);
    }

    -- who is over does nothing
    over_on : (p : ℕ) → IsTimeOf p s drawn → (h.goes.was.errand ≡ None) × (h.goes.was.left ≡ []) → HasGoneOn t drawn
    over_on p time over = by (client_done said) refl
      where
        is_done : (o : Turn) → client_done o ≡ true → o ≡ turn.Done
        is_done (turn.Sent to) e = absurd (true≢false (sym e))
        is_done (turn.Resent to) e = absurd (true≢false (sym e))
        is_done turn.Local e = absurd (true≢false (sym e))
        is_done turn.Told e = absurd (true≢false (sym e))
        is_done (turn.Full to) e = absurd (true≢false (sym e))
        is_done turn.Waiting e = absurd (true≢false (sym e))
        is_done turn.Done e = refl

        told : t.clients ≡ s.clients → IsToldNothing s.seen t.seen number s.rings t.rings h.goes.was h.goes.is ⊎ (IsToldMore s.seen t.seen number s.rings t.rings h.goes.was h.goes.is ⊎ IsToldByItself s.seen t.seen number s.rings t.rings h.goes.was h.goes.is) → HasGoneOn t drawn
        told same (inl x) = none_on p (drawn_still k s t w drawn d same x.answers x.seen) (time_still p time same x.answers)
        told same (inr (inl x)) = absurd (true≢false (sym x.asked ∙ ap is_some over.0))
        told same (inr (inr x)) = absurd (x.some over.1)

        by : (b : Bool) → client_done said ≡ b → HasGoneOn t drawn
        by true e = told (done_same number s.clients t.clients s.rings t.rings said h (is_done said e)).0 (client_told k s t w number said h rest)
        by false e =
            let less = asks_next s.seen t.seen h.lent t.rings h.goes.was h.goes.is said h.goes.goes over.0 (λ done. true≢false (sym (ap client_done done) ∙ e)) in
            let none = ap (length {A = Op}) over.1 in
            absurd (omega (arith, less, none))

    pub turn_on : (p : ℕ) → IsTimeOf p s drawn → ((c : Caller) → slice_get s.clients number ≡ Some c → IsSome c.errand) ⊎ IsItsTime number s → HasGoneOn t drawn
    turn_on p time may = by (order number p) may
      where
        idle : h.goes.was.errand ≡ None → ((c : Caller) → slice_get s.clients number ≡ Some c → IsSome c.errand) → ⊥
        idle none asks = true≢false (sym (asks h.goes.was h.goes.stood) ∙ ap is_some none)

        by : (number < p) ⊎ ((number ≡ p) ⊎ (p < number)) → ((c : Caller) → slice_get s.clients number ≡ Some c → IsSome c.errand) ⊎ IsItsTime number s → HasGoneOn t drawn
        by (inl low) m = over_on p time (time.before number low h.goes.was h.goes.stood)
        by (inr (inl same)) m = client_on (subst (λ (n : ℕ). IsTimeOf n s drawn) (sym same) time)
        by (inr (inr more)) (inl asks) = absurd (idle (time.behind number h.goes.was more h.goes.stood).1 asks)
        by (inr (inr more)) (inr its) = client_on (shifted p time more its)

  -- ---- the primary's turn

  module _ (p : ℕ) (time : IsTimeOf p s drawn) (clients : t.clients ≡ s.clients) where
    primary_on : (o : PrimaryTurn) → HasServed k s t w o → HasGoneOn t drawn
    primary_on o x = record {
      more = x.told.entry ∷ [];
      has = served_more k s t w drawn d o x clients;
      client = p;
      time = record {
        low = subst (λ (l : List Caller). p < length l) (sym clients) time.low;
        before = λ place low. subst (IsOverAt place) (sym clients) (time.before place low);
        behind = λ place c over at. time.behind place c over (ap (λ (l : List Caller). slice_get l place) (sym clients) ∙ at);
        joins = λ ring at.
            let is = some_one x.gained.is ring
            (sym (ap (λ (l : List (Buffer (Answer N))). slice_get l x.request.ask.client) x.gained.stands ∙ set_there s.rings.answers x.request.ask.client x.gained.was x.gained.is x.gained.stood) ∙ ap (slice_get t.rings.answers) its ∙ at) in
            (λ i. time.joins x.gained.was (ap (slice_get s.rings.answers) (sym its) ∙ x.gained.stood) i ++ x.told.entry ∷ [])
            ∙ append_assoc (joined (lists_of s.clients)) (answered_in x.gained.was.items) (x.told.entry ∷ [])
            ∙ (λ i. joined (lists_of s.clients) ++ sym (answered_push x.gained.was.items x.told) i)
            ∙ (λ i. joined (lists_of s.clients) ++ answered_in (x.gained.was.items ++ sym x.tells i ∷ []))
            ∙ (λ i. joined (lists_of s.clients) ++ answered_in ((sym (ap (λ (b : Buffer (Answer N)). b.items) x.gained.so.1) ∙ ap (λ (b : Buffer (Answer N)). b.items) is) i))
            ∙ (λ i. joined (lists_of (sym clients i)) ++ answered_in ring.items);
      };
    }
      where
        within : x.request.ask.client < length s.clients
        within = let l = slice_get_within s.rings.answers x.request.ask.client x.gained.was x.gained.stood in let e = w.each in omega (arith, l, e)

        c : (c : Caller) × (slice_get s.clients x.request.ask.client ≡ Some c)
        c = caller_at s.clients x.request.ask.client within

        away : c.0.errand ≡ None → ⊥
        away none =
            let once = w.once x.request.ask.client c.0 x.gained.was c.1 x.gained.stood in
            let gone = ap gone_of none in
            let asked = ap (asked_by x.request.ask.client) x.lost.0 in
            let mine = own_one x.request.ask.client x.request refl in
            omega (arith, once, gone, asked, mine)

        its : x.request.ask.client ≡ p
        its = by (order x.request.ask.client p)
          where
            by : (x.request.ask.client < p) ⊎ ((x.request.ask.client ≡ p) ⊎ (p < x.request.ask.client)) → x.request.ask.client ≡ p
            by (inl low) = absurd (away (time.before x.request.ask.client low c.0 c.1).0)
            by (inr (inl same)) = same
            by (inr (inr more)) = absurd (away (time.behind x.request.ask.client c.0 more c.1).1)

    pub primary_turn_on : (o : PrimaryTurn) → HasRested k s t w o ⊎ HasServed k s t w o → ((o ≡ did.Served → ⊥) → t.seen ≡ s.seen) → HasGoneOn t drawn
    primary_turn_on o (inl r) seen = none_on p (drawn_still k s t w drawn d clients r.rings.answers (seen (λ e. idle (sym r.says ∙ e)))) (time_still p time clients r.rings.answers)
      where
        idle : did.Idle ≡ did.Served → ⊥
        idle e = cc
    primary_turn_on o (inr x) seen = primary_on o x

  pub step_on : (p : ℕ) → IsTimeOf p s drawn → (m : Step) → IsInOrder m s → IsStep k m s t → HasGoneOn t drawn
  step_on p time (TurnOf (actor.Client number) (turned.Client o)) may h = turn_on number o h.0 h.1 p time may
  step_on p time (TurnOf (actor.Client number) (turned.Worker o)) may h = absurd h
  step_on p time (TurnOf (actor.Client number) (turned.Primary o)) may h = absurd h
  step_on p time (TurnOf (actor.Worker number) o) may h = no_worker k s t w number o h
  step_on p time (TurnOf actor.Primary (turned.Client o)) may h = absurd h
  step_on p time (TurnOf actor.Primary (turned.Worker o)) may h = absurd h
  step_on p time (TurnOf actor.Primary (turned.Primary o)) may h = primary_turn_on p time (ap (λ (x : GlobalState N). x.clients) h.1) o (primary_did k s t w o h.0) h.0.seen
  step_on p time (CallOf file o) may h =
      let clients = ap (λ (x : GlobalState N). x.clients) h.rest in
      let answers = ap (λ (x : GlobalState N). x.rings.answers) h.rest in
      none_on p (drawn_still k s t w drawn d clients answers (ap (λ (x : GlobalState N). x.seen) h.rest)) (time_still p time clients answers)

-- ---- the whole

module _ {N : Type 0} (k : Start) where
  steps_on : (ms : List Step) (s t : GlobalState N) → AreStepsWhere k IsInOrder ms s t → ServesAlone k s → (drawn : List Entry) → HasDrawn s drawn → (p : ℕ) → IsTimeOf p s drawn → HasGoneOn t drawn
  steps_on [] s t a w drawn d p time = subst (λ (x : GlobalState N). HasGoneOn x drawn) (sym a) (none_on k s s w drawn d p d time)
  steps_on (m ∷ ms) s t a w drawn d p time =
      let one = step_on k s a.0 w drawn d p time m a.1 a.2 in
      let all = steps_on ms a.0 t a.3 (step_then k s a.0 w m a.2) (drawn ++ one.more) one.has one.client one.time in
      record { more = one.more ++ all.more; has = subst (HasDrawn t) (append_assoc drawn one.more all.more) all.has; client = all.client; time = subst (IsTimeOf all.client t) (append_assoc drawn one.more all.more) all.time }

  module _ (s : GlobalState N) (w : ServesAlone k s) (nothing : HaveAskedNothing s.clients) where
    told_none : (clients : List Caller) → HaveAskedNothing clients → (place : ℕ) (c : Caller) → slice_get clients place ≡ Some c → c.told ≡ []
    told_none [] n place c at = nothing_at [] place c refl at
    told_none (x ∷ clients) n zero c at = ap (λ (y : Caller). y.told) (sym (some_one x c at)) ∙ n.0.0
    told_none (x ∷ clients) n (suc place) c at = told_none clients n.1 place c at

    no_lists : (clients : List Caller) → HaveAskedNothing clients → joined (lists_of clients) ≡ []
    no_lists [] n = refl
    no_lists (x ∷ clients) n = (λ i. entries_in (n.0.0 i) ++ joined (lists_of clients)) ∙ no_lists clients n.1

    -- nothing was drawn at the beginning
    pub none_drawn : HasDrawn s []
    none_drawn = record {
      rising = tt;
      seen = λ e none. absurd none;
      whose = λ e none. absurd none;
      each = λ client c ring at there.
          let empty = no_answer k s w client c ring at there (asks_nothing s.clients nothing client c at).0 in
          (λ i. entries_in (sym (told_none s.clients nothing client c at) i) ++ sym empty i);
    }

    pub first_time : 0 < length s.clients → IsTimeOf 0 s []
    first_time some = record {
      low = some;
      before = λ place low. absurd (omega (arith, low));
      behind = λ place c over at. (told_none s.clients nothing place c at, (asks_nothing s.clients nothing place c at).0);
      joins = λ ring at.
          let c = caller_at s.clients 0 some in
          let empty = no_answer k s w 0 c.0 ring c.1 at (asks_nothing s.clients nothing 0 c.0 c.1).0 in
          (λ i. sym (no_lists s.clients nothing) i ++ sym empty i);
    }

    no_turns : (ms : List Step) → map who_in ms ≡ [] → ms ≡ []
    no_turns [] e = refl
    no_turns (m ∷ ms) e = absurd (clash e)
      where
        clash : who_in m ∷ map who_in ms ≡ [] → ⊥
        clash f = cc

    -- Played without a schedule, the transcripts one behind the other are the transcripts merged.
    pub by_turns : (t : GlobalState N) → IsPlayed k [] s t (Ok tt) → IsAtRest t.clients t.primary → IsMerged (lists_of t.clients) (joined (lists_of t.clients))
    by_turns t p rest = by (dec_le 1 (length s.clients))
      where
        begins : p.then ≡ s
        begins = subst (λ (ms : List Step). AreStepsWhere k (λ m u. Unit {0}) ms s p.then) (no_turns p.turns.turns p.turns.are) p.turns.steps

        steps : AreStepsWhere k IsInOrder p.goes.more s t
        steps = subst (λ (x : GlobalState N × GlobalState N). AreStepsWhere k IsInOrder p.goes.more x.0 x.1) (λ i. (begins i, sym p.goes.ends i)) p.goes.steps

        ended : ServesAlone k t
        ended = steps_alone k IsInOrder p.goes.more s t steps w

        by : Dec (1 ≤ length s.clients) → IsMerged (lists_of t.clients) (joined (lists_of t.clients))
        by (yes some) =
            let all = steps_on p.goes.more s t steps w [] none_drawn 0 (first_time some) in
            let c = caller_at t.clients all.client all.time.low in
            let l = all.time.low in
            let same = ended.each in
            let r = caller_at t.rings.answers all.client (omega (arith, l, same)) in
            let empty = no_answer k t ended all.client c.0 r.0 c.1 r.1 (rest.idle all.client c.0 c.1) in
            subst (IsMerged (lists_of t.clients)) (all.time.joins r.0 r.1 ∙ (λ i. joined (lists_of t.clients) ++ empty i) ∙ append-nil (joined (lists_of t.clients))) (drawn_merged k t all.more ended rest.idle all.has)
        by (no none) = none_there t.clients (let a = w.all_there in let b = ended.all_there in omega (arith, none, a, b))
          where
            none_there : (clients : List Caller) → length clients ≡ 0 → IsMerged (lists_of clients) (joined (lists_of clients))
            none_there [] e = record { rising = tt; each = λ client. refl }
            none_there (c ∷ clients) e = absurd (omega (arith, e))

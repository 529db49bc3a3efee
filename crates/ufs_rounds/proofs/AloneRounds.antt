-- Steps of a session whose primary alone serves: they come to rest.
use Rattle.std.proofs.Common.{◌≡◌, ◌⊎◌, inl, inr, ⊎_elim, ℕ, zero, suc, ◌+◌, ◌*◌, ◌≤◌, ◌<◌, Bool, true, false, is_some, length, map, slice_get, List, [], ◌∷◌, ◌++◌, Option, None, Some, IsSome, Err, refl, ap, sym, ◌∙◌, subst, true≢false, arith}
use Rattle.std.proofs.lemmas.Option.{slice_get_within}
use Rattle.std.specs.FinMap as fin
use Rattle.std.specs.Ordering.{nat_cmp}
use Rattle.std.specs.Prelude.{◌||◌, count_by, not}
use Rattle.circular_buffer.specs.Buffer.{Buffer}
use Rattle.ufs_primary.specs.OfAtPrimary.{IsFileOrdered, IsReadied}
use Rattle.ufs_primary.specs.OfAtPrimary.{StockState}
use Rattle.ufs_primary.specs.OfAtPrimary.{Ordered}
use Rattle.ufs_primary.specs.OfAtPrimary.ordered as ordered
use Rattle.ufs_base.specs.declared.lack.Lack.{Lack}
use Rattle.ufs_caller.specs.Callers.{Caller, Errand}
use Rattle.ufs_hand_laws.specs.Owned.{one, weigh}
use Rattle.ufs_primary.specs.OfHome.{HomeState, is_waited}
use Rattle.ufs_primary.specs.OfHome.{IsMoved, IsOrdered, order_of}
use Rattle.ufs_primary.specs.OfHome.{Moved}
use Rattle.ufs_primary.specs.OfHome.moved as moved
use Rattle.ufs_joint.specs.Cells.{Start}
use Rattle.ufs_model.proofs.Facts.Rising.{entries-empty}
use Rattle.ufs_model.specs.declared.data.Actor.{Actor}
use Rattle.ufs_model.specs.declared.data.Actor.TheVariants as actor
use Rattle.ufs_msg.specs.Requests.{Asked}
use Rattle.ufs_msg.specs.There.{client_count, worker_count}
use Rattle.ufs_msg.specs.declared.answer.Answer.{Answer}
use Rattle.ufs_owner.specs.Owners.{count_out, is_primary}
use Rattle.ufs_owner.specs.declared.owner.Owner.{Owner}
use Rattle.ufs_owner.specs.declared.owner.Owner.TheVariants as owner
use Rattle.ufs_owner.specs.declared.owner.Standing.{Standing}
use Rattle.ufs_rounds.specs.Alone.{ServesAlone, gone_of, unkept}
use Rattle.ufs_rounds.specs.Rest.{AreIdle, EndsQuietly, HasSettled, IsAtRest, IsInOrder, IsOnlyHeard, IsPlayed, IsQuietRound, IsWhy}
use Rattle.ufs_rounds.specs.Steps.{AreStepsWhere, CallOf, HadTurn, IsStep, Step, TurnOf, does_move, moves_in, some_moved, who_in}
use Rattle.ufs_rounds.specs.Turns.{GlobalState, IsTurnOf}
use Rattle.ufs_rounds.specs.declared.rounds.Unfinished.{Unfinished}
use Rattle.ufs_rounds.specs.declared.rounds.Unfinished.TheVariants as unfinished
use Rattle.ufs_rounds.specs.declared.turned.Turned.{Turned}
use Rattle.ufs_rounds.specs.declared.turned.Turned.TheVariants as turned
use Rattle.ufs_rounds.proofs.Alone.{held, nothing_at, weigh_most}
use Rattle.ufs_rounds.proofs.AloneClients.{client_moves, client_nearer, client_rests, client_then, kept_of, kept_one, todo}
use Rattle.ufs_rounds.proofs.AlonePrimary.{primary_owns, primary_nearer, primary_rests, primary_then}

-- ---- a file is called to the primary

-- where it is already: the table and the letters stay
abbrev pub StaysHome : StockState → StockState → Type 0
StaysHome s t = t.home.owners ≡ s.home.owners

ordered_nothing : (m : Moved) (waited : Bool) → IsOrdered (order_of owner.Primary waited 0) m → m ≡ moved.Nothing
ordered_nothing m waited (inl e) = e
ordered_nothing m waited (inr l) = absurd (true≢false (sym l.2))

module _ (visible : Bool) (s t : StockState) (file : ℕ) (none : s.home.owners ≡ fin.empty) where
  pub called_home : (o : Ordered) → IsFileOrdered visible s t file 0 o → StaysHome s t
  called_home (ordered.Dropped fault) h = ap (λ (x : StockState). x.home.owners) h.1
  called_home (ordered.Moved m) (inr h) = ap (λ (x : StockState). x.home.owners) h.rest
  called_home (ordered.Moved m) (inl h) = ap (λ (x : HomeState). x.owners) home ∙ ready h.readied
    where
      nothing : m ≡ moved.Nothing
      nothing = ordered_nothing m (is_waited s.home.owners file) (subst (λ (o : Owner). IsOrdered (order_of o (is_waited s.home.owners file) 0) m) (primary_owns s.home.owners file none) h.answer)

      home : t.home ≡ h.ready.home
      home = subst (λ (x : Moved). IsMoved h.ready.home t.home file 0 x) nothing h.moved

      ready : (h.ready ≡ s) ⊎ IsReadied visible s h.ready file → h.ready.home.owners ≡ s.home.owners
      ready (inl e) = ap (λ (x : StockState). x.home.owners) e
      ready (inr r) = ap (λ (x : StockState). x.home.owners) r.rest

-- ---- a step

module _ {N : Type 0} (k : Start) (s t : GlobalState N) (w : ServesAlone k s) where
  -- the clients, and what stands in the rings, are as they were
  pub record HasStayed : Type 0 where
    pub clients : t.clients ≡ s.clients
    pub requests : t.rings.requests.primary ≡ s.rings.requests.primary
    pub answers : t.rings.answers ≡ s.rings.answers

  pub no_worker : {X : Type 0} (number : ℕ) (o : Turned) → IsTurnOf k (actor.Worker number) s t o → X
  no_worker number (turned.Client o) h = absurd h
  no_worker number (turned.Worker o) h = nothing_at s.workers h.0.place h.0.goes.was w.no_worker h.0.goes.stood
  no_worker number (turned.Primary o) h = absurd h

  called : (file : ℕ) (o : Ordered) → IsStep k (CallOf file o) s t → ServesAlone k t
  called file o h = subst (ServesAlone k) (sym h.rest) (record {
    no_worker = w.no_worker;
    none_there = w.none_there;
    all_there = w.all_there;
    few = w.few;
    numbers = w.numbers;
    ask = w.ask;
    nothing_out = record {
      owners = called_home k.is_visible s.primary.stock t.primary.stock file w.nothing_out.owners o h.ordered ∙ w.nothing_out.owners;
      coming = w.nothing_out.coming;
      answers = w.nothing_out.answers;
      waiting = w.nothing_out.waiting;
    };
    rings = w.rings;
    each = w.each;
    once = w.once;
  })

  pub step_then : (m : Step) → IsStep k m s t → ServesAlone k t
  step_then (TurnOf (actor.Client number) (turned.Client o)) h = client_then k s t w number o h.0 h.1
  step_then (TurnOf (actor.Client number) (turned.Worker o)) h = absurd h
  step_then (TurnOf (actor.Client number) (turned.Primary o)) h = absurd h
  step_then (TurnOf (actor.Worker number) o) h = no_worker number o h
  step_then (TurnOf actor.Primary (turned.Client o)) h = absurd h
  step_then (TurnOf actor.Primary (turned.Worker o)) h = absurd h
  step_then (TurnOf actor.Primary (turned.Primary o)) h = primary_then k s t w h.1 o h.0
  step_then (CallOf file o) h = called file o h

  todo_same : HasStayed → todo t ≤ todo s
  todo_same h =
      let kept = ap (weigh (λ (c : Caller). kept_of c.errand)) h.clients in
      let long = ap (λ (b : Buffer Asked). length b.items) h.requests in
      let sum = ap (weigh held) h.answers in
      omega (arith, kept, long, sum)

  call_stays : (file : ℕ) (o : Ordered) → IsStep k (CallOf file o) s t → HasStayed
  call_stays file o h = record { clients = ap (λ (x : GlobalState N). x.clients) h.rest; requests = ap (λ (x : GlobalState N). x.rings.requests.primary) h.rest; answers = ap (λ (x : GlobalState N). x.rings.answers) h.rest }

  -- where no new request is asked, less is left to be done
  pub step_nearer : (m : Step) → IsOnlyHeard m s → IsStep k m s t → todo t + one (does_move m) ≤ todo s
  step_nearer (TurnOf (actor.Client number) (turned.Client o)) heard h = client_nearer k s t w number o h.0 h.1 (heard h.0.goes.was h.0.goes.stood)
  step_nearer (TurnOf (actor.Client number) (turned.Worker o)) heard h = absurd h
  step_nearer (TurnOf (actor.Client number) (turned.Primary o)) heard h = absurd h
  step_nearer (TurnOf (actor.Worker number) o) heard h = no_worker number o h
  step_nearer (TurnOf actor.Primary (turned.Client o)) heard h = absurd h
  step_nearer (TurnOf actor.Primary (turned.Worker o)) heard h = absurd h
  step_nearer (TurnOf actor.Primary (turned.Primary o)) heard h = primary_nearer k s t w h.1 o h.0
  step_nearer (CallOf file o) heard h = let low = todo_same (call_stays file o h) in omega (arith, low)

  -- one that does nothing
  pub step_stays : (m : Step) → IsOnlyHeard m s → IsStep k m s t → does_move m ≡ false → HasStayed
  step_stays (TurnOf (actor.Client number) (turned.Client o)) heard h none =
      let r = client_rests k s t w number o h.0 h.1 (heard h.0.goes.was h.0.goes.stood) none in
      record { clients = r.0; requests = r.1; answers = r.2 }
  step_stays (TurnOf (actor.Client number) (turned.Worker o)) heard h none = absurd h
  step_stays (TurnOf (actor.Client number) (turned.Primary o)) heard h none = absurd h
  step_stays (TurnOf (actor.Worker number) o) heard h none = no_worker number o h
  step_stays (TurnOf actor.Primary (turned.Client o)) heard h none = absurd h
  step_stays (TurnOf actor.Primary (turned.Worker o)) heard h none = absurd h
  step_stays (TurnOf actor.Primary (turned.Primary o)) heard h none =
      let near = (primary_rests k s t w h.1 o h.0 none).0 in
      record { clients = ap (λ (x : GlobalState N). x.clients) h.1; requests = near.requests; answers = near.answers }
  step_stays (CallOf file o) heard h none = call_stays file o h

  -- the primary, where it does nothing, has no request
  primary_empty : (o : Turned) → IsStep k (TurnOf actor.Primary o) s t → does_move (TurnOf actor.Primary o) ≡ false → (s.rings.requests.primary.items ≡ []) ⊎ (client_count k ≡ 0)
  primary_empty (turned.Client o) h none = absurd h
  primary_empty (turned.Worker o) h none = absurd h
  primary_empty (turned.Primary o) h none = (primary_rests k s t w h.1 o h.0 none).1

  -- and then each client with a request under way does something
  client_goes : (number : ℕ) (o : Turned) → IsOnlyHeard (TurnOf (actor.Client number) o) s → IsStep k (TurnOf (actor.Client number) o) s t → does_move (TurnOf (actor.Client number) o) ≡ false → s.rings.requests.primary.items ≡ [] → ⊥
  client_goes number (turned.Client o) heard h none empty = client_moves k s t w number o h.0 h.1 empty (heard h.0.goes.was h.0.goes.stood) none
  client_goes number (turned.Worker o) heard h none empty = absurd h
  client_goes number (turned.Primary o) heard h none empty = absurd h

none_here : (a b : Bool) → (a || b) ≡ false → (a ≡ false) × (b ≡ false)
none_here true b e = absurd (true≢false e)
none_here false b e = (refl, e)

-- ---- steps, one after the other

module _ {N : Type 0} (k : Start) where
  pub steps_alone : (may : Step → GlobalState N → Type 0) (ms : List Step) (s t : GlobalState N) → AreStepsWhere k may ms s t → ServesAlone k s → ServesAlone k t
  steps_alone may [] s t a w = subst (ServesAlone k) (sym a) w
  steps_alone may (m ∷ ms) s t a w = steps_alone may ms a.0 t a.3 (step_then k s a.0 w m a.2)

  steps_nearer : (ms : List Step) (s t : GlobalState N) → AreStepsWhere k IsOnlyHeard ms s t → ServesAlone k s → todo t + moves_in ms ≤ todo s
  steps_nearer [] s t a w = let same = ap todo a in omega (arith, same)
  steps_nearer (m ∷ ms) s t a w =
      let rest = steps_nearer ms a.0 t a.3 (step_then k s a.0 w m a.2) in
      let first = step_nearer k s a.0 w m a.1 a.2 in
      omega (arith, rest, first)

  stayed_then : (s u t : GlobalState N) → (a : ServesAlone k s) (b : ServesAlone k u) → HasStayed k s u a → HasStayed k u t b → HasStayed k s t a
  stayed_then s u t a b x y = record { clients = y.clients ∙ x.clients; requests = y.requests ∙ x.requests; answers = y.answers ∙ x.answers }

  -- in a round in which nobody does anything, all stays
  round_stays : (ms : List Step) (s t : GlobalState N) → AreStepsWhere k IsOnlyHeard ms s t → (w : ServesAlone k s) → some_moved ms ≡ false → HasStayed k s t w
  round_stays [] s t a w none = record { clients = ap (λ (x : GlobalState N). x.clients) a; requests = ap (λ (x : GlobalState N). x.rings.requests.primary) a; answers = ap (λ (x : GlobalState N). x.rings.answers) a }
  round_stays (m ∷ ms) s t a w none =
      let n = none_here (does_move m) (some_moved ms) none in
      let b = step_then k s a.0 w m a.2 in
      stayed_then s a.0 t w b (step_stays k s a.0 w m a.1 a.2 n.0) (round_stays ms a.0 t a.3 b n.1)

  -- so the primary has no request,
  round_empty : (ms : List Step) (s t : GlobalState N) → AreStepsWhere k IsOnlyHeard ms s t → ServesAlone k s → some_moved ms ≡ false → HadTurn actor.Primary ms → (s.rings.requests.primary.items ≡ []) ⊎ (client_count k ≡ 0)
  round_empty [] s t a w none had = absurd had
  round_empty (m ∷ ms) s t a w none had =
      let n = none_here (does_move m) (some_moved ms) none in
      let b = step_then k s a.0 w m a.2 in
      let stayed = step_stays k s a.0 w m a.1 a.2 n.0 in
      ⊎_elim
      (λ (e : Some actor.Primary ≡ who_in m). first m e a.2 n.0)
      (λ (later : HadTurn actor.Primary ms). ⊎_elim (λ (e : a.0.rings.requests.primary.items ≡ []). inl (ap (λ (x : Buffer Asked). x.items) (sym stayed.requests) ∙ e)) (λ (e : client_count k ≡ 0). inr e) (round_empty ms a.0 t a.3 b n.1 later))
      had
    where
      first : (m : Step) → Some actor.Primary ≡ who_in m → IsStep k m s a.0 → does_move m ≡ false → (s.rings.requests.primary.items ≡ []) ⊎ (client_count k ≡ 0)
      first (TurnOf actor.Primary o) e h none = primary_empty k s a.0 w o h none
      first (TurnOf (actor.Client number) o) e h none = absurd (clash e)
        where
          clash : Some actor.Primary ≡ Some (actor.Client number) → ⊥
          clash e' = cc
      first (TurnOf (actor.Worker number) o) e h none = absurd (clash e)
        where
          clash : Some actor.Primary ≡ Some (actor.Worker number) → ⊥
          clash e' = cc
      first (CallOf file o) e h none = absurd (clash e)
        where
          clash : Some actor.Primary ≡ None → ⊥
          clash e' = cc

  -- and no client that had its turn has a request under way.
  round_idle : (number : ℕ) (ms : List Step) (s t : GlobalState N) → AreStepsWhere k IsOnlyHeard ms s t → ServesAlone k s → some_moved ms ≡ false → s.rings.requests.primary.items ≡ [] → HadTurn (actor.Client number) ms → ⊥
  round_idle number [] s t a w none empty had = absurd had
  round_idle number (m ∷ ms) s t a w none empty had =
      let n = none_here (does_move m) (some_moved ms) none in
      let b = step_then k s a.0 w m a.2 in
      let stayed = step_stays k s a.0 w m a.1 a.2 n.0 in
      ⊎_elim
      (λ (e : Some (actor.Client number) ≡ who_in m). first m e a.1 a.2 n.0)
      (λ (later : HadTurn (actor.Client number) ms). round_idle number ms a.0 t a.3 b n.1 (ap (λ (x : Buffer Asked). x.items) stayed.requests ∙ empty) later)
      had
    where
      first : (m : Step) → Some (actor.Client number) ≡ who_in m → IsOnlyHeard m s → IsStep k m s a.0 → does_move m ≡ false → ⊥
      first (TurnOf (actor.Client other) o) e heard h none = client_goes k s a.0 w other o heard h none empty
      first (TurnOf (actor.Worker other) o) e heard h none = clash e
        where
          clash : Some (actor.Client number) ≡ Some (actor.Worker other) → ⊥
          clash e' = cc
      first (TurnOf actor.Primary o) e heard h none = clash e
        where
          clash : Some (actor.Client number) ≡ Some actor.Primary → ⊥
          clash e' = cc
      first (CallOf file o) e heard h none = clash e
        where
          clash : Some (actor.Client number) ≡ None → ⊥
          clash e' = cc

-- ---- rounds come to rest

none_counted : count_out fin.empty ≡ 0
none_counted = ap (λ (es : List (ℕ × Standing)). count_by (λ (standing : Standing). not (is_primary standing.owner)) (map {B = Standing} (λ (e : ℕ × Standing). e.1) es)) (entries-empty nat_cmp Standing)

module _ {N : Type 0} (k : Start) where
  few_held : (s : GlobalState N) → ServesAlone k s → todo s ≤ 96
  few_held s w =
      let kept = weigh_most (λ (c : Caller). kept_of c.errand) s.clients (λ i c at. one_kept c.errand) in
      let answers = weigh_most held s.rings.answers (λ i ring at. one_held i ring at) in
      let few = w.few in
      let fit = w.rings.fit in
      let each = w.each in
      omega (arith, kept, answers, few, fit, each)
    where
      one_kept : (o : Option Errand) → kept_of o ≤ 1
      one_kept None = omega arith
      one_kept (Some e) = by e.kept
        where
          by : (r : Option Asked) → kept_one r ≤ 1
          by None = omega arith
          by (Some r) = omega arith

      one_gone : (o : Option Errand) → gone_of o ≤ 1
      one_gone None = omega arith
      one_gone (Some e) = by e.kept
        where
          by : (r : Option Asked) → unkept r ≤ 1
          by None = omega arith
          by (Some r) = omega arith

      at : {A : Type 0} (xs : List A) (i : ℕ) → i < length xs → (x : A) × (slice_get xs i ≡ Some x)
      at [] i low = absurd (omega (arith, low))
      at (x ∷ xs) zero low = (x, refl)
      at (x ∷ xs) (suc i) low = at xs i (omega (arith, low))

      one_held : (i : ℕ) (ring : Buffer (Answer N)) → slice_get s.rings.answers i ≡ Some ring → held ring ≤ 1
      one_held i ring there =
          let within = slice_get_within s.rings.answers i ring there in
          let each = w.each in
          let c = at s.clients i (omega (arith, within, each)) in
          let once = w.once i c.0 ring c.1 there in
          let few = one_gone c.0.errand in
          omega (arith, once, few)

  where_split : (may : Step → GlobalState N → Type 0) (ms ns : List Step) (s t : GlobalState N) → AreStepsWhere k may (ms ++ ns) s t → (u : GlobalState N) × AreStepsWhere k may ms s u × AreStepsWhere k may ns u t
  where_split may [] ns s t a = (s, refl, a)
  where_split may (m ∷ ms) ns s t a = let rest = where_split may ms ns a.0 t a.3 in (rest.0, (a.0, a.1, a.2, rest.1), rest.2)

  module _ (s t : GlobalState N) (w : ServesAlone k s) (out : IsAtRest t.clients t.primary → ⊥) where
    -- nobody asks in a round in which nobody does anything
    quiet_rests : (ms : List Step) → AreStepsWhere k IsOnlyHeard ms s t → IsQuietRound (worker_count k) t.clients ms → AreIdle t.clients
    quiet_rests ms a q place c at = by c.errand refl
      where
        stayed : HasStayed k s t w
        stayed = round_stays k ms s t a w q.quiet

        asking : (e : Errand) → c.errand ≡ Some e → IsSome c.errand
        asking e is = ap is_some is

        low : place < length t.clients
        low = slice_get_within t.clients place c at

        some_there : client_count k ≡ 0 → ⊥
        some_there none = let all = w.all_there in let same = ap (length {A = Caller}) stayed.clients in let l = low in omega (arith, none, all, same, l)

        by : (o : Option Errand) → c.errand ≡ o → c.errand ≡ None
        by None is = is
        by (Some e) is = absurd (⊎_elim
            (λ (empty : s.rings.requests.primary.items ≡ []). round_idle k place ms s t a w q.quiet empty (q.turns.clients_had place c low at (asking e is)))
            (λ (none : client_count k ≡ 0). some_there none)
            (round_empty k ms s t a w q.quiet q.turns.primary_had))

    none_out : count_out t.primary.stock.home.owners ≡ 0 → AreIdle t.clients → ⊥
    none_out none idle = out (record { idle = idle; here = none })

  nothing_out : (t : GlobalState N) → ServesAlone k t → count_out t.primary.stock.home.owners ≡ 0
  nothing_out t w = ap count_out w.nothing_out.owners ∙ none_counted

  pub settles : (s t : GlobalState N) (why : Unfinished) → ServesAlone k s → (IsAtRest t.clients t.primary → ⊥) → HasSettled k s t (Err why) → ⊥
  settles s t why w out h = by why h.why
    where
      begun : ServesAlone k h.called
      begun = steps_alone k IsOnlyHeard h.calls.calls s h.called h.calls.steps w

      ended : ServesAlone k t
      ended = steps_alone k IsOnlyHeard h.rounds h.called t h.steps begun

      quiet : (lack : Option Lack) → EndsQuietly (worker_count k) t.clients h.lack h.rounds lack → ⊥
      quiet lack e =
          let all = where_split IsOnlyHeard e.before (e.first ++ e.last) h.called t (subst (λ (ms : List Step). AreStepsWhere k IsOnlyHeard ms h.called t) e.are h.steps) in
          let two = where_split IsOnlyHeard e.first e.last all.0 t all.2 in
          let w1 = steps_alone k IsOnlyHeard e.before h.called all.0 all.1 begun in
          let w2 = steps_alone k IsOnlyHeard e.first all.0 two.0 two.1 w1 in
          none_out two.0 t w2 out (nothing_out t ended) (quiet_rests two.0 t w2 out e.last two.2 e.last_quiet)

      many : 512 + 96 * count_out s.primary.stock.home.owners ≤ 2 * moves_in h.rounds + 2 → ⊥
      many long =
          let none = nothing_out s w in
          let less = steps_nearer k h.rounds h.called t h.steps begun in
          let few = few_held h.called begun in
          omega (arith, long, none, less, few)

      by : (why : Unfinished) → IsWhy (worker_count k) (count_out s.primary.stock.home.owners) t.clients h.lack h.rounds why → ⊥
      by (unfinished.Lack what) e = quiet (Some what) e
      by unfinished.Stuck (inl e) = quiet None e
      by unfinished.Stuck (inr long) = many long

  -- A session whose primary alone serves is played to the end.
  pub plays_on : (schedule : List Actor) (s t : GlobalState N) (why : Unfinished) → ServesAlone k s → (IsAtRest t.clients t.primary → ⊥) → IsPlayed k schedule s t (Err why) → ⊥
  plays_on schedule s t why w out p =
      let w1 = steps_alone k (λ m u. Unit {0}) p.turns.turns s p.then p.turns.steps w in
      let w2 = steps_alone k IsInOrder p.goes.more p.then p.goes.then p.goes.steps w1 in
      settles p.goes.then t why w2 out p.goes.ends

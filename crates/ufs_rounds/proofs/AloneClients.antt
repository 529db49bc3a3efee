-- A client's turn in a session whose primary alone serves.
use Rattle.std.proofs.Common.{◌≡◌, ◌⊎◌, inl, inr, ⊎_elim, ℕ, ◌+◌, ◌*◌, ◌≤◌, Bool, true, false, eqb, eqb-true, is_some, length, set, slice_get, List, [], Option, None, Some, IsSome, IfSome, refl, ap, sym, ◌∙◌, subst, true≢false, arith}
use Rattle.circular_buffer.specs.Buffer.{Buffer}
use Rattle.ufs_caller.proofs.Servers.{server_there, told_renewed, used_there}
use Rattle.ufs_caller.specs.Callers.{Caller, Errand, file_answered, file_asked, file_hinted}
use Rattle.ufs_caller.specs.Tied.{AreServersThere}
use Rattle.ufs_caller.specs.Turns as caller
use Rattle.ufs_caller.specs.Turns.{IsAnswered, Sends, TriesAgain}
use Rattle.ufs_caller.specs.declared.turn.Turn.{Turn}
use Rattle.ufs_caller.specs.declared.turn.Turn.TheVariants as turn
use Rattle.ufs_hand_laws.proofs.Keys.{itself}
use Rattle.ufs_hand_laws.specs.Owned.{Has, one, weigh}
use Rattle.ufs_joint.specs.Cells.{Start}
use Rattle.ufs_model.specs.declared.data.Actor.{Actor}
use Rattle.ufs_model.specs.declared.data.Actor.TheVariants as actor
use Rattle.ufs_msg.proofs.Places.{set_same}
use Rattle.ufs_msg.specs.Answers.{Told}
use Rattle.ufs_msg.specs.Requests.{Asked}
use Rattle.ufs_msg.specs.Rows.{HappensAt}
use Rattle.ufs_msg.specs.Servers.{HappensFor}
use Rattle.ufs_msg.specs.There.{IsServerThere, worker_count}
use Rattle.ufs_msg.specs.declared.answer.Answer.{Answer}
use Rattle.ufs_msg.specs.declared.answer.Answer.TheVariants as answer
use Rattle.ufs_ring.specs.Buffers.{HasGained, HasLost}
use Rattle.ufs_rounds.specs.Alone.{AsksPrimary, CarryNoFile, IsServedThere, ServesAlone, asked_by, gone_of, unkept}
use Rattle.ufs_rounds.specs.Moves.{client_moved}
use Rattle.ufs_rounds.specs.Rings.{Asks, Hears, HasNoAnswer, IsAskFull, IsQuiet, Rings}
use Rattle.ufs_rounds.specs.Turns.{GlobalState, IsCallerTurn, IsClientTurn}
use Rattle.ufs_rounds.proofs.Alone.{AreNear, GoOn, goes_asked, goes_heard, goes_still, held, length_at, near_quiet, near_same, near_then, only_primary, weigh_set}
use Rattle.ufs_rounds.proofs.Asking.{set_there, there_now}

-- a request that the post gave back
abbrev pub kept_one : Option Asked → ℕ
kept_one None = 0
kept_one (Some r) = 1

abbrev pub kept_of : Option Errand → ℕ
kept_of None = 0
kept_of (Some e) = kept_one e.kept

-- ---- how a client goes on, with its rings

module _ {N : Type 0} (k : Start) (number : ℕ) (p q : Rings N) (a b : Caller) (said : Turn) where
  pub record ClientWent (asked heard : ℕ) : Type 0 where
    pub rings : GoOn number asked heard p q
    pub asks : AsksPrimary k b
    pub gone : gone_of b.errand + heard ≡ gone_of a.errand + asked
    -- where it asks no new request, what it does brings it nearer to its answer
    pub nearer : IsSome a.errand → (3 * kept_of b.errand + 2 * asked) + one (client_moved said) ≤ 3 * kept_of a.errand + heard

  abbrev pub Went : Type 0
  Went = (asked : ℕ) × (heard : ℕ) × ClientWent asked heard

none_some : {X : Type 0} (o : Option Errand) → o ≡ None → IsSome o → X
none_some o none some = absurd (true≢false (sym some ∙ ap is_some none))

module _ {N : Type 0} (k : Start) (none : worker_count k ≡ 0) (since upto number : ℕ) (p lent q : Rings N) (quiet : IsQuiet p lent) (mine : lent.client ≡ number) (a b : Caller) (was : a.number ≡ number) (is : b.number ≡ number) (asks : AsksPrimary k a) (carry : CarryNoFile k p) where
  -- nothing came or went, and the client's request is as far as it was
  still : (said : Turn) → AreNear lent q → AsksPrimary k b → gone_of b.errand ≡ gone_of a.errand → (IsSome a.errand → 3 * kept_of b.errand + one (client_moved said) ≤ 3 * kept_of a.errand) → Went k number p q a b said
  still said same asks' gone near = (
    0,
    0,
    record {
      rings = let near = near_then p lent q (near_quiet p lent quiet) same in goes_still number p q near.answers near;
      asks = asks';
      gone = omega (arith, gone);
      nearer = λ some. let low = near some in omega (arith, low);
    },
  )

  -- its request came to the primary
  came : (said : Turn) (to : Actor) (r : Asked) → to ≡ actor.Primary → r.ask.client ≡ number → Asks lent to r q → AsksPrimary k b → gone_of b.errand ≡ gone_of a.errand + 1 → (IsSome a.errand → (3 * kept_of b.errand + 2) + one (client_moved said) ≤ 3 * kept_of a.errand)
      → Went k number p q a b said
  came said to r at own h asks' gone near =
      let gained = subst (λ (who : Actor). HappensFor HasGained HasGained lent.requests who r q.requests) at h.0 in (
        1,
        0,
        record {
          rings = goes_asked number p q (h.1 ∙ quiet.0) r own (h.2.primary ∙ quiet.2.primary) (gained.1 ∙ quiet.1.workers) (subst (λ (x : Buffer Asked). HasGained x r q.requests.primary) quiet.1.primary gained.0);
          asks = asks';
          gone = omega (arith, gone);
          nearer = λ some. let low = near some in omega (arith, low);
        },
      )

  -- whose answer was taken
  taken_there : (x : Answer N) (r : Rings N) → Hears lent x r → IsServedThere k x
  taken_there x r h =
      carry.answered number h.0.was x (ap (λ (l : List (Buffer (Answer N))). slice_get l number) (sym quiet.0) ∙ ap (slice_get lent.answers) (sym mine) ∙ h.0.stood) (subst (Has x) (sym h.0.so.0) (inl refl))

  -- no answer sends a request on
  not_sent_on : (to : Actor) (stays : Bool) → caller.SentOnGoes Asks Hears IsQuiet IsAskFull HasNoAnswer lent to stays q a b → ⊥
  not_sent_on to stays h = taken_there (answer.Redirect h.0) h.2 h.3

  -- ---- a new request

  module _ (to : Actor) (r : Asked) (kept : Option Asked) (s : Sends to r kept a b) where
    to_primary : to ≡ actor.Primary
    to_primary = only_primary k none to (subst (IsServerThere k) (sym s.server) (server_there k a.hints asks.hints (file_hinted a.fds s.request)))

    own_request : r.ask.client ≡ number
    own_request = s.ask.client ∙ was

    sends_asks : IfSome kept (λ x. x.ask.client ≡ b.number) → AsksPrimary k b
    sends_asks own = record {
      hints = subst (AreServersThere k) (sym s.hints) (used_there k a.hints asks.hints (file_asked a.fds s.request));
      errand = subst (λ (o : Option Errand). IfSome o (λ e. (e.to ≡ actor.Primary) × IfSome e.kept (λ x. x.ask.client ≡ b.number))) (sym s.errand) (to_primary, own);
    }

  -- ---- one that was kept

  module _ (to : Actor) (r : Asked) (kept : Option Asked) (again : Bool) (t : TriesAgain to r kept again a b) where
    its_errand : (t.e.to ≡ actor.Primary) × IfSome t.e.kept (λ x. x.ask.client ≡ a.number)
    its_errand = subst (λ (o : Option Errand). IfSome o (λ e. (e.to ≡ actor.Primary) × IfSome e.kept (λ x. x.ask.client ≡ a.number))) t.errand asks.errand

    kept_to : to ≡ actor.Primary
    kept_to = sym t.to_is ∙ its_errand.0

    kept_own : r.ask.client ≡ number
    kept_own = subst (λ (o : Option Asked). IfSome o (λ x. x.ask.client ≡ a.number)) t.was_kept its_errand.1 ∙ was

    was_kept : kept_of a.errand ≡ 1
    was_kept = ap kept_of t.errand ∙ ap kept_one t.was_kept

    was_here : gone_of a.errand ≡ 0
    was_here = ap gone_of t.errand ∙ ap unkept t.was_kept

    now_kept : kept_of b.errand ≡ kept_one kept
    now_kept = ap (λ (c : Caller). kept_of c.errand) t.all

    now_gone : gone_of b.errand ≡ unkept kept
    now_gone = ap (λ (c : Caller). gone_of c.errand) t.all

    tries_asks : IfSome kept (λ x. x.ask.client ≡ b.number) → AsksPrimary k b
    tries_asks own = record {
      hints = subst (AreServersThere k) (ap (λ (c : Caller). c.hints) (sym t.all)) asks.hints;
      errand = subst (λ (o : Option Errand). IfSome o (λ e. (e.to ≡ actor.Primary) × IfSome e.kept (λ x. x.ask.client ≡ b.number))) (ap (λ (c : Caller). c.errand) (sym t.all)) (its_errand.0, own);
    }

  goes_kept : (said : Turn) (to : Actor) (again : Bool) → client_moved said ≡ true → (h : (r : Asked) × TriesAgain to r None again a b × Asks lent to r q) → Went k number p q a b said
  goes_kept said to again moved h =
      let here = was_here to h.0 None again h.1 in
      let now = now_gone to h.0 None again h.1 in
      let had = was_kept to h.0 None again h.1 in
      let has = now_kept to h.0 None again h.1 in
      let m = ap one moved in
      came said to h.0 (kept_to to h.0 None again h.1) (kept_own to h.0 None again h.1) h.2 (tries_asks to h.0 None again h.1 tt) (omega (arith, here, now)) (λ some. omega (arith, had, has, m))

  -- ---- each turn

  went : (said : Turn) → IsCallerTurn since upto lent q said a b → Went k number p q a b said
  went (turn.Sent to) (inl h) =
      let idle = ap gone_of h.1.idle in
      let now = ap gone_of h.1.errand in
      came (turn.Sent to) to h.0 (to_primary to h.0 None h.1) (own_request to h.0 None h.1) h.2 (sends_asks to h.0 None h.1 tt) (omega (arith, idle, now)) (λ some. none_some a.errand h.1.idle some)
  went (turn.Sent to) (inr h) = goes_kept (turn.Sent to) to false refl h
  went (turn.Resent to) (inl h) = absurd (not_sent_on to false h)
  went (turn.Resent to) (inr h) = goes_kept (turn.Resent to) to true refl h
  went turn.Local h =
      let idle = ap gone_of h.0.idle in
      let now = ap gone_of h.0.idle' in
      still turn.Local (near_same lent q h.1) (record {
        hints = subst (AreServersThere k) (sym h.0.hints) asks.hints;
        errand = subst (λ (o : Option Errand). IfSome o (λ e. (e.to ≡ actor.Primary) × IfSome e.kept (λ x. x.ask.client ≡ b.number))) (sym h.0.idle') tt;
      }) (omega (arith, idle, now)) (λ some. none_some a.errand h.0.idle some)
  went turn.Told h = told h.0 h.1 h.2 (taken_there (answer.Served h.0) q h.1)
    where
      told : (s : Told) → Hears lent (answer.Served s) q → IsAnswered s a b → IsServedThere {N = N} k (answer.Served s) → Went k number p q a b turn.Told
      told s g h there =
          let had = ap gone_of h.errand ∙ ap unkept h.sent in
          let now = ap gone_of h.idle in
          let kept = ap kept_of h.idle in (
            0,
            1,
            record {
              rings = goes_heard number p q (answer.Served s) (g.2.primary ∙ quiet.2.primary) (g.1.primary ∙ quiet.1.primary) (g.1.workers ∙ quiet.1.workers)
                  (subst (λ (x : List (Buffer (Answer N)) × ℕ). HappensAt HasLost x.0 x.1 (answer.Served s) q.answers) (λ i. (quiet.0 i, mine i)) g.0);
              asks = record {
                hints = told_renewed k a.hints asks.hints (file_answered s.desc (file_asked a.fds h.e.request)) s.owner b.hints there h.hints;
                errand = subst (λ (o : Option Errand). IfSome o (λ e. (e.to ≡ actor.Primary) × IfSome e.kept (λ x. x.ask.client ≡ b.number))) (sym h.idle) tt;
              };
              gone = omega (arith, had, now);
              nearer = λ some. omega (arith, kept);
            },
          )
  went (turn.Full to) (inl h) =
      let idle = ap gone_of h.1.idle in
      let now = ap gone_of h.1.errand in
      still (turn.Full to) (near_quiet lent q h.2.0) (sends_asks to h.0 (Some h.0) h.1 (own_request to h.0 (Some h.0) h.1 ∙ sym is)) (omega (arith, idle, now)) (λ some. none_some a.errand h.1.idle some)
  went (turn.Full to) (inr (inl h)) = absurd (not_sent_on to true h)
  went (turn.Full to) (inr (inr h)) =
      let t = h.1.1 in
      let r = h.1.0 in
      let here = was_here to r (Some r) h.0 t in
      let now = now_gone to r (Some r) h.0 t in
      let had = was_kept to r (Some r) h.0 t in
      let has = now_kept to r (Some r) h.0 t in
      still (turn.Full to) (near_quiet lent q h.1.2.0) (tries_asks to r (Some r) h.0 t (kept_own to r (Some r) h.0 t ∙ sym is)) (omega (arith, here, now)) (λ some. omega (arith, had, has))
  went turn.Waiting h =
      let gone = ap (λ (c : Caller). gone_of c.errand) h.0.all in
      let kept = ap (λ (c : Caller). kept_of c.errand) h.0.all in
      still turn.Waiting (near_quiet lent q h.1) (subst (AsksPrimary k) (sym h.0.all) asks) gone (λ some. omega (arith, kept))
  went turn.Done h =
      let gone = ap (λ (c : Caller). gone_of c.errand) h.0.all in
      let kept = ap (λ (c : Caller). kept_of c.errand) h.0.all in
      still turn.Done (near_same lent q h.1) (subst (AsksPrimary k) (sym h.0.all) asks) gone (λ some. omega (arith, kept))

-- ---- the state behind a client's turn

-- how much is left to be done of what is under way
abbrev pub todo : {N : Type 0} → GlobalState N → ℕ
todo s = 3 * weigh (λ c. kept_of c.errand) s.clients + (2 * length s.rings.requests.primary.items + weigh held s.rings.answers)

module _ {N : Type 0} (k : Start) (s t : GlobalState N) (w : ServesAlone k s) (number : ℕ) (said : Turn) (h : IsClientTurn s.seen t.seen number s.clients t.clients s.rings t.rings said) (rest : t ≡ record s { clients = t.clients; rings = t.rings; seen = t.seen }) where
  here : slice_get t.clients number ≡ Some h.goes.is
  here = ap (λ (l : List Caller). slice_get l number) h.goes.stands ∙ set_there s.clients number h.goes.was h.goes.is h.goes.stood

  pub client_went : Went k number s.rings t.rings h.goes.was h.goes.is said
  client_went =
      went k w.none_there s.seen t.seen number s.rings h.lent t.rings h.quiet h.mine h.goes.was h.goes.is (w.numbers number h.goes.was h.goes.stood) (h.numbers number h.goes.is here) (w.ask number h.goes.was h.goes.stood) w.rings said h.goes.goes

  some_caller : (x y : Caller) → Some x ≡ Some y → x ≡ y
  some_caller x y e = cc

  pub client_then : ServesAlone k t
  client_then = subst (ServesAlone k) (sym rest) (record {
    no_worker = w.no_worker;
    none_there = w.none_there;
    all_there = long ∙ w.all_there;
    few = let few' = w.few in omega (arith, long, few');
    numbers = h.numbers;
    ask = λ place c at. ⊎_elim (λ (e : (place ≡ number) × (h.goes.is ≡ c)). subst (AsksPrimary k) e.1 g.asks) (λ old. w.ask place c old) (there_now number s.clients t.clients s.rings t.rings said h place c at);
    nothing_out = w.nothing_out;
    rings = record {
      no_letter = g.rings.letters ∙ w.rings.no_letter;
      no_ring = g.rings.workers ∙ w.rings.no_ring;
      room = g.rings.capacity ∙ w.rings.room;
      fit = g.rings.fit w.rings.room w.rings.fit;
      rooms = λ client ring at. let old = g.rings.was client ring at in old.2 ∙ w.rings.rooms client old.0 old.1;
      answered = λ client ring x at has. let old = g.rings.was client ring at in w.rings.answered client old.0 x old.1 (old.3 x has);
    };
    each = g.rings.rings ∙ w.each ∙ sym long;
    once = once;
  })
    where
      g : ClientWent k number s.rings t.rings h.goes.was h.goes.is said client_went.0 client_went.1
      g = client_went.2

      long : length t.clients ≡ length s.clients
      long = ap length h.goes.stands ∙ length_at s.clients number h.goes.is

      once : (place : ℕ) (c : Caller) (ring : Buffer (Answer N)) → slice_get t.clients place ≡ Some c → slice_get t.rings.answers place ≡ Some ring → asked_by place t.rings.requests.primary.items + length ring.items ≡ gone_of c.errand
      once place c ring at there = by (eqb place number) refl
        where
          other : eqb place number ≡ false → place ≡ number → ⊥
          other e same = true≢false (sym (ap (λ (n : ℕ). eqb n number) same ∙ itself number) ∙ e)

          by : (b : Bool) → eqb place number ≡ b → asked_by place t.rings.requests.primary.items + length ring.items ≡ gone_of c.errand
          by true e =
              let same = eqb-true place number e in
              let old = g.rings.was place ring there in
              let is : h.goes.is ≡ c = some_caller h.goes.is c (sym here ∙ ap (slice_get t.clients) (sym same) ∙ at) in
              let now = g.rings.asks_here in
              let less = g.rings.hears_here ring old.0 (ap (slice_get t.rings.answers) (sym same) ∙ there) (ap (slice_get s.rings.answers) (sym same) ∙ old.1) in
              let before = w.once number h.goes.was old.0 h.goes.stood (ap (slice_get s.rings.answers) (sym same) ∙ old.1) in
              let gone = g.gone in
              let mine = ap (λ (x : Caller). gone_of x.errand) is in
              let at_place = ap (λ (n : ℕ). asked_by n t.rings.requests.primary.items) same in
              omega (arith, now, less, before, gone, mine, at_place)
          by false e = ⊎_elim
              (λ (x : (place ≡ number) × (h.goes.is ≡ c)). absurd (other e x.0))
              (λ (old : slice_get s.clients place ≡ Some c).
              let before = w.once place c ring old (sym (g.rings.hears_else place (other e)) ∙ there) in
              let same = g.rings.asks_else place (other e) in
              omega (arith, before, same))
              (there_now number s.clients t.clients s.rings t.rings said h place c at)

  -- where it asks no new request, less is left to be done
  pub client_nearer : IsSome h.goes.was.errand → todo t + one (client_moved said) ≤ todo s
  client_nearer some =
      let g = client_went.2 in
      let near = g.nearer some in
      let held_now = ap (weigh (λ (c : Caller). kept_of c.errand)) h.goes.stands in
      let held_set = weigh_set (λ (c : Caller). kept_of c.errand) s.clients number h.goes.was h.goes.is h.goes.stood in
      let many = g.rings.many in
      let sum = g.rings.sum in
      omega (arith, near, held_now, held_set, many, sum)

  a_number : h.goes.was.number ≡ number
  a_number = w.numbers number h.goes.was h.goes.stood

  b_number : h.goes.is.number ≡ number
  b_number = h.numbers number h.goes.is here

  pub sent_on : (to : Actor) (stays : Bool) → caller.SentOnGoes Asks Hears IsQuiet IsAskFull HasNoAnswer h.lent to stays t.rings h.goes.was h.goes.is → ⊥
  sent_on to stays g =
      not_sent_on k w.none_there s.seen t.seen number s.rings h.lent t.rings h.quiet h.mine h.goes.was h.goes.is a_number b_number (w.ask number h.goes.was h.goes.stood) w.rings to stays g

  -- Where the primary has no request, a client with a request under way does something.
  pub client_moves : s.rings.requests.primary.items ≡ [] → IsSome h.goes.was.errand → client_moved said ≡ false → ⊥
  client_moves empty some = by said h.goes.goes
    where
      none_asked : asked_by number s.rings.requests.primary.items ≡ 0
      none_asked = ap (asked_by number) empty

      no_room : (to : Actor) → to ≡ actor.Primary → IsAskFull h.lent to → ⊥
      no_room to at full =
          let f : h.lent.requests.primary.capacity ≤ length h.lent.requests.primary.items = subst (IsAskFull h.lent) at full in
          let same = ap (λ (b : Buffer Asked). length b.items) h.quiet.1.primary in
          let room = ap (λ (b : Buffer Asked). b.capacity) h.quiet.1.primary ∙ w.rings.room in
          let none = ap length empty in
          omega (arith, f, same, room, none)

      by : (o : Turn) → IsCallerTurn s.seen t.seen h.lent t.rings o h.goes.was h.goes.is → client_moved o ≡ false → ⊥
      by (turn.Sent to) g e = true≢false e
      by (turn.Resent to) g e = true≢false e
      by turn.Local g e = true≢false e
      by turn.Told g e = true≢false e
      by (turn.Full to) (inl g) e = none_some h.goes.was.errand g.1.idle some
      by (turn.Full to) (inr (inl g)) e = sent_on to true g
      by (turn.Full to) (inr (inr g)) e =
          no_room to
          (kept_to k w.none_there s.seen t.seen number s.rings h.lent t.rings h.quiet h.mine h.goes.was h.goes.is a_number b_number (w.ask number h.goes.was h.goes.stood) w.rings to g.1.0 (Some g.1.0) g.0 g.1.1)
          g.1.2.1
      by turn.Waiting g e =
          let had = ap gone_of g.0.errand ∙ ap unkept g.0.sent in
          let at = ap (λ (l : List (Buffer (Answer N))). slice_get l number) (sym h.quiet.0) ∙ ap (slice_get h.lent.answers) (sym h.mine) ∙ g.2.1 in
          let once = w.once number h.goes.was g.2.0 h.goes.stood at in
          let none = ap length g.2.2 in
          omega (arith, had, once, none, none_asked)
      by turn.Done g e = none_some h.goes.was.errand g.0.idle some

  -- one that does nothing leaves all as it was
  pub client_rests : IsSome h.goes.was.errand → client_moved said ≡ false → (t.clients ≡ s.clients) × (t.rings.requests.primary ≡ s.rings.requests.primary) × (t.rings.answers ≡ s.rings.answers)
  client_rests some = by said h.goes.goes
    where
      same : IsQuiet h.lent t.rings → h.goes.is ≡ h.goes.was → (t.clients ≡ s.clients) × (t.rings.requests.primary ≡ s.rings.requests.primary) × (t.rings.answers ≡ s.rings.answers)
      same q e = (h.goes.stands ∙ ap (set s.clients number) e ∙ set_same s.clients number h.goes.was h.goes.stood, q.1.primary ∙ h.quiet.1.primary, q.0 ∙ h.quiet.0)

      again : (e : Errand) (r : Asked) → h.goes.was.errand ≡ Some e → e.kept ≡ Some r → record h.goes.was { errand = Some (record e { kept = Some r }) } ≡ h.goes.was
      again e r at kept = λ i. record h.goes.was { errand = ((λ j. Some (record e { kept = sym kept j })) ∙ sym at) i }

      by : (o : Turn) → IsCallerTurn s.seen t.seen h.lent t.rings o h.goes.was h.goes.is → client_moved o ≡ false → (t.clients ≡ s.clients) × (t.rings.requests.primary ≡ s.rings.requests.primary) × (t.rings.answers ≡ s.rings.answers)
      by (turn.Sent to) g e = absurd (true≢false e)
      by (turn.Resent to) g e = absurd (true≢false e)
      by turn.Local g e = absurd (true≢false e)
      by turn.Told g e = absurd (true≢false e)
      by (turn.Full to) (inl g) e = none_some h.goes.was.errand g.1.idle some
      by (turn.Full to) (inr (inl g)) e = absurd (sent_on to true g)
      by (turn.Full to) (inr (inr g)) e = same g.1.2.0 (g.1.1.all ∙ again g.1.1.e g.1.0 g.1.1.errand g.1.1.was_kept)
      by turn.Waiting g e = same g.1 g.0.all
      by turn.Done g e = none_some h.goes.was.errand g.0.idle some

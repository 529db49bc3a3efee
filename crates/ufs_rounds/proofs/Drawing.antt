-- The entries that turns draw, in a session whose primary alone serves.
use Rattle.std.proofs.Common.{◌≡◌, ◌≢◌, ◌⊎◌, inl, inr, ⊎_elim, ℕ, zero, suc, ◌+◌, ◌≤◌, ◌<◌, Bool, true, false, eqb, eqb-true, is_some, length, slice_get, List, [], ◌∷◌, ◌++◌, append_assoc, None, Option, Some, IsSome, refl, ap, sym, ◌∙◌, subst, true≢false, arith}
use Rattle.std.proofs.lemmas.List.{append-nil}
use Rattle.std.proofs.lemmas.Option.{slice_get_within}
use native.Mathlib.Decide.{dec_le}
use Rattle.std.specs.Prelude.{unwrap_or}
use Rattle.circular_buffer.specs.Buffer.{Buffer}
use Rattle.ufs_primary.specs.OfBaton.{IsDrawnWith}
use Rattle.ufs_caller.specs.Callers.{Caller, entries_in}
use Rattle.ufs_caller.specs.declared.told.Told.{Told as Told'}
use Rattle.ufs_caller.specs.declared.turn.Turn.{Turn}
use Rattle.ufs_caller.specs.declared.turn.Turn.TheVariants as turn
use Rattle.ufs_client.specs.Played.{IsMerged, transcript}
use Rattle.ufs_crash_laws.specs.Changes.{asks_commit}
use Rattle.ufs_hand_laws.proofs.Keys.{itself}
use Rattle.ufs_hand_laws.proofs.Owning.{has_append}
use Rattle.ufs_hand_laws.specs.Owned.{Has, one}
use Rattle.ufs_joint.specs.Cells.{Start}
use Rattle.ufs_model.specs.History.{entries_of, is_excused}
use Rattle.ufs_model.specs.declared.data.Actor.TheVariants as actor
use Rattle.ufs_model.specs.declared.data.Entry.{Entry}
use Rattle.ufs_model.specs.declared.data.Errno.{Errno}
use Rattle.ufs_model.specs.declared.data.Op.{Op}
use Rattle.ufs_model.specs.declared.data.Reply.TheVariants as reply
use Rattle.ufs_msg.specs.Answers.{Told}
use Rattle.ufs_msg.specs.Rows.{HappensAt}
use Rattle.ufs_msg.specs.declared.answer.Answer.{Answer}
use Rattle.ufs_msg.specs.declared.answer.Answer.TheVariants as answer'
use Rattle.ufs_primary.specs.declared.turn.PrimaryTurn.{PrimaryTurn}
use Rattle.ufs_primary.specs.declared.turn.PrimaryTurn.TheVariants as did
use Rattle.ufs_ring.specs.Buffers.{HasLost}
use Rattle.ufs_rounds.specs.Alone.{ServesAlone, gone_of}
use Rattle.ufs_rounds.specs.Drawn.{HasDrawn, answered_in}
use Rattle.ufs_rounds.specs.Rest.{AreIdle}
use Rattle.ufs_rounds.specs.Rings.{Rings}
use Rattle.ufs_rounds.specs.Scripts.{lists_of}
use Rattle.ufs_rounds.specs.Steps.{AreStepsWhere, CallOf, IsStep, Step, TurnOf}
use Rattle.ufs_rounds.specs.Turns.{GlobalState, IsCallerTurn, IsClientTurn}
use Rattle.ufs_rounds.specs.declared.turned.Turned.TheVariants as turned
use Rattle.ufs_rounds.proofs.Alone.{length_at, nothing_at, set_else, some_one}
use Rattle.ufs_rounds.proofs.AloneClients.{sent_on}
use Rattle.ufs_rounds.proofs.AlonePrimary.{HasRested, HasServed, caller_at, primary_did}
use Rattle.ufs_rounds.proofs.AloneRounds.{no_worker, step_then}
use Rattle.ufs_rounds.proofs.Asking.{set_there}
use Rattle.ufs_rounds.proofs.Entries.{none_of, other_push, own_push, rises_push}

-- ---- answers

module _ {N : Type 0} where
  pub answered_push : (xs : List (Answer N)) (told : Told) → answered_in (xs ++ answer'.Served told ∷ []) ≡ answered_in xs ++ told.entry ∷ []
  answered_push [] told = refl
  answered_push (answer'.Served s ∷ xs) told = λ i. s.entry ∷ answered_push xs told i
  answered_push (answer'.Redirect r ∷ xs) told = answered_push xs told

  pub no_answers : (xs : List (Answer N)) → length xs ≡ 0 → answered_in xs ≡ []
  no_answers [] none = refl
  no_answers (y ∷ xs) none = absurd (omega (arith, none))

pub list_at : (clients : List Caller) (client : ℕ) (c : Caller) → slice_get clients client ≡ Some c → slice_get (lists_of clients) client ≡ Some (entries_in c.told)
list_at [] client c at = nothing_at [] client c refl at
list_at (x ∷ clients) zero c at = ap (λ (y : Caller). Some (entries_in y.told)) (let e : x ≡ c = some_one x c at in e)
list_at (x ∷ clients) (suc client) c at = list_at clients client c at

list_past : (clients : List Caller) (client : ℕ) → length clients ≤ client → transcript (lists_of clients) client ≡ []
list_past [] client past = refl
list_past (x ∷ clients) zero past = absurd (omega (arith, past))
list_past (x ∷ clients) (suc client) past = list_past clients client (omega (arith, past))

pub entries_push : (told : List Told') (t : Told') → entries_in (told ++ t ∷ []) ≡ entries_in told ++ t.entry ∷ []
entries_push [] t = refl
entries_push (x ∷ told) t = λ i. x.entry ∷ entries_push told t i

none_left : (request : Op) (rest left : List Op) → left ≡ request ∷ rest → left ≡ [] → ⊥
none_left request rest left is none = clash (sym is ∙ none)
  where
    clash : request ∷ rest ≡ [] → ⊥
    clash e = cc

-- ---- what a client did

abbrev is_local : Turn → Bool
is_local turn.Local = true
is_local (turn.Sent to) = false
is_local (turn.Resent to) = false
is_local turn.Told = false
is_local (turn.Full to) = false
is_local turn.Waiting = false
is_local turn.Done = false

not_local : (o : Turn) → is_local o ≡ false → o ≢ turn.Local
not_local o none e = true≢false (sym (ap is_local e) ∙ none)

module _ {N : Type 0} (since upto number : ℕ) (p q : Rings N) (a b : Caller) where
  -- it was told nothing,
  pub record IsToldNothing : Type 0 where
    pub answers : q.answers ≡ p.answers
    pub told : b.told ≡ a.told
    pub seen : upto ≡ since

  -- or was told what was on its way,
  pub record IsToldMore : Type 0 where
    pub answer : Told
    pub taken : HappensAt HasLost p.answers number (answer'.Served answer) q.answers
    pub new : Told'
    pub is : new.entry ≡ answer.entry
    pub told : b.told ≡ a.told ++ new ∷ []
    pub seen : upto ≡ since
    pub asked : IsSome a.errand

  -- or answered a request itself.
  pub record IsToldByItself : Type 0 where
    pub answers : q.answers ≡ p.answers
    pub new : Told'
    pub told : b.told ≡ a.told ++ new ∷ []
    pub drawn : IsDrawnWith since upto new.entry
    pub mine : new.entry.client ≡ number
    pub idle : a.errand ≡ None
    pub some : a.left ≡ [] → ⊥
    pub plain : is_excused new.entry.reply ≡ false
    pub refused : asks_commit new.entry.op ≡ true → (errno : Errno) × (new.entry.reply ≡ reply.Refused errno)

module _ {N : Type 0} (k : Start) (s t : GlobalState N) (w : ServesAlone k s) (number : ℕ) (said : Turn) (h : IsClientTurn s.seen t.seen number s.clients t.clients s.rings t.rings said) (rest : t ≡ record s { clients = t.clients; rings = t.rings; seen = t.seen }) where
  abbrev Told3 : Type 0
  Told3 = IsToldNothing s.seen t.seen number s.rings t.rings h.goes.was h.goes.is ⊎ (IsToldMore s.seen t.seen number s.rings t.rings h.goes.was h.goes.is ⊎ IsToldByItself s.seen t.seen number s.rings t.rings h.goes.was h.goes.is)

  pub client_told : Told3
  client_told = by said refl h.goes.goes
    where
      still : (o : Turn) → said ≡ o → is_local o ≡ false → t.rings.answers ≡ h.lent.answers → h.goes.is.told ≡ h.goes.was.told → Told3
      still o is none same told = inl (record { answers = same ∙ h.quiet.0; told = told; seen = h.seen (not_local said (ap is_local is ∙ none)) })

      by : (o : Turn) → said ≡ o → IsCallerTurn s.seen t.seen h.lent t.rings o h.goes.was h.goes.is → Told3
      by (turn.Sent to) is (inl g) = still (turn.Sent to) is refl g.2.1 g.1.told
      by (turn.Sent to) is (inr g) = still (turn.Sent to) is refl g.2.1 (ap (λ (c : Caller). c.told) g.1.all)
      by (turn.Resent to) is (inl g) = absurd (sent_on k s t w number said h rest to false g)
      by (turn.Resent to) is (inr g) = still (turn.Resent to) is refl g.2.1 (ap (λ (c : Caller). c.told) g.1.all)
      by turn.Local is g = inr (inr (record {
        answers = (λ i. (g.1 i).answers) ∙ h.quiet.0;
        new = record { entry = g.0.entry; via = [] };
        told = g.0.told;
        drawn = g.0.drawn;
        mine = g.0.client ∙ w.numbers number h.goes.was h.goes.stood;
        idle = g.0.idle;
        some = none_left g.0.request h.goes.is.left h.goes.was.left g.0.next;
        plain = g.0.plain;
        refused = λ asks. g.0.refused (sym (ap asks_commit g.0.asked) ∙ asks);
      }))
      by turn.Told is g = inr (inl (record {
        answer = g.0;
        taken = subst (λ (x : List (Buffer (Answer N)) × ℕ). HappensAt HasLost x.0 x.1 (answer'.Served g.0) t.rings.answers) (λ i. (h.quiet.0 i, h.mine i)) g.1.0;
        new = record { entry = g.0.entry; via = g.2.e.via };
        is = refl;
        told = g.2.told;
        seen = h.seen (not_local said (ap is_local is));
        asked = ap is_some g.2.errand;
      }))
      by (turn.Full to) is (inl g) = still (turn.Full to) is refl g.2.0.0 g.1.told
      by (turn.Full to) is (inr (inl g)) = absurd (sent_on k s t w number said h rest to true g)
      by (turn.Full to) is (inr (inr g)) = still (turn.Full to) is refl g.1.2.0.0 (ap (λ (c : Caller). c.told) g.1.1.all)
      by turn.Waiting is g = still turn.Waiting is refl g.1.0 (ap (λ (c : Caller). c.told) g.0.all)
      by turn.Done is g = still turn.Done is refl (λ i. (g.1 i).answers) (ap (λ (c : Caller). c.told) g.0.all)

-- ---- what was drawn then

-- one was drawn in the turn, or none
pub record HasDrawnMore {N : Type 0} (t : GlobalState N) (drawn : List Entry) : Type 0 where
  pub more : List Entry
  pub has : HasDrawn t (drawn ++ more)

module _ {N : Type 0} (k : Start) (s t : GlobalState N) (w : ServesAlone k s) (drawn : List Entry) (d : HasDrawn s drawn) where
  unfoldable pub none_more : HasDrawn t drawn → HasDrawnMore t drawn
  none_more h = record { more = []; has = subst (HasDrawn t) (sym (append-nil drawn)) h }

  -- an entry drawn with the baton stands behind the others
  later : (e : Entry) → IsDrawnWith s.seen t.seen e → (x : Entry) → Has x drawn → x.ticket < e.ticket
  later e with x has = let low = d.seen x has in let l = with.later in omega (arith, low, l)

  seen_more : (e : Entry) → IsDrawnWith s.seen t.seen e → (x : Entry) → Has x (drawn ++ e ∷ []) → x.ticket < t.seen
  seen_more e with x has = ⊎_elim
      (λ (old : Has x drawn). let low = d.seen x old in let l = with.later in let u = with.seen in omega (arith, low, l, u))
      (λ (new : Has x (e ∷ [])). ⊎_elim (λ (is : x ≡ e). subst (λ (y : Entry). y.ticket < t.seen) (sym is) with.seen) (λ none. absurd none) new)
      (has_append x drawn (e ∷ []) has)

  whose_more : (e : Entry) (n : ℕ) → length s.clients ≡ n → e.client < n → (x : Entry) → Has x (drawn ++ e ∷ []) → x.client < n
  whose_more e n long low x has = ⊎_elim
      (λ (old : Has x drawn). let l = d.whose x old in omega (arith, l, long))
      (λ (new : Has x (e ∷ [])). ⊎_elim (λ (is : x ≡ e). subst (λ (y : Entry). y.client < n) (sym is) low) (λ none. absurd none) new)
      (has_append x drawn (e ∷ []) has)

  -- all that is told stays
  pub drawn_still : t.clients ≡ s.clients → t.rings.answers ≡ s.rings.answers → t.seen ≡ s.seen → HasDrawn t drawn
  drawn_still clients answers seen = record {
    rising = d.rising;
    seen = λ e has. subst (λ (n : ℕ). e.ticket < n) (sym seen) (d.seen e has);
    whose = λ e has. subst (λ (cs : List Caller). e.client < length cs) (sym clients) (d.whose e has);
    each = λ client c ring at there.
        d.each client c ring (ap (λ (l : List Caller). slice_get l client) (sym clients) ∙ at) (ap (λ (l : List (Buffer (Answer N))). slice_get l client) (sym answers) ∙ there);
  }

  -- ---- in the primary's turn

  module _ (o : PrimaryTurn) (x : HasServed k s t w o) (clients : t.clients ≡ s.clients) where
    pub served_more : HasDrawn t (drawn ++ x.told.entry ∷ [])
    served_more = record {
      rising = rises_push drawn x.told.entry d.rising (later x.told.entry x.drawn);
      seen = seen_more x.told.entry x.drawn;
      whose = whose_more x.told.entry (length t.clients) (ap length (sym clients)) low;
      each = each;
    }
      where
        within : x.request.ask.client < length s.clients
        within = let l = slice_get_within s.rings.answers x.request.ask.client x.gained.was x.gained.stood in let e = w.each in omega (arith, l, e)

        low : x.told.entry.client < length t.clients
        low = let l = within in let m = x.mine in let c = ap (length {A = Caller}) clients in omega (arith, l, m, c)

        each : (client : ℕ) (c : Caller) (ring : Buffer (Answer N)) → slice_get t.clients client ≡ Some c → slice_get t.rings.answers client ≡ Some ring → entries_of client (drawn ++ x.told.entry ∷ []) ≡ entries_in c.told ++ answered_in ring.items
        each client c ring at there = by (eqb client x.request.ask.client) refl
          where
            was_at : slice_get s.clients client ≡ Some c
            was_at = ap (λ (l : List Caller). slice_get l client) (sym clients) ∙ at

            different : eqb client x.request.ask.client ≡ false → client ≡ x.request.ask.client → ⊥
            different e same = true≢false (sym (ap (λ (n : ℕ). eqb n x.request.ask.client) same ∙ itself x.request.ask.client) ∙ e)

            by : (b : Bool) → eqb client x.request.ask.client ≡ b → entries_of client (drawn ++ x.told.entry ∷ []) ≡ entries_in c.told ++ answered_in ring.items
            by true e =
                let same = eqb-true client x.request.ask.client e in
                let is : x.gained.is ≡ ring = some_one x.gained.is ring
                (sym (ap (λ (l : List (Buffer (Answer N))). slice_get l x.request.ask.client) x.gained.stands ∙ set_there s.rings.answers x.request.ask.client x.gained.was x.gained.is x.gained.stood) ∙ ap (slice_get t.rings.answers) (sym same) ∙ there) in
                own_push client drawn x.told.entry (x.mine ∙ sym same)
                ∙ (λ i. d.each client c x.gained.was was_at (ap (slice_get s.rings.answers) same ∙ x.gained.stood) i ++ x.told.entry ∷ [])
                ∙ append_assoc (entries_in c.told) (answered_in x.gained.was.items) (x.told.entry ∷ [])
                ∙ (λ i. entries_in c.told ++ sym (answered_push x.gained.was.items x.told) i)
                ∙ (λ i. entries_in c.told ++ answered_in (x.gained.was.items ++ sym x.tells i ∷ []))
                ∙ (λ i. entries_in c.told ++ answered_in ((sym (ap (λ (b : Buffer (Answer N)). b.items) x.gained.so.1) ∙ ap (λ (b : Buffer (Answer N)). b.items) is) i))
            by false e =
                let not = different e in
                let old = sym (ap (λ (l : List (Buffer (Answer N))). slice_get l client) x.gained.stands ∙ set_else s.rings.answers x.request.ask.client client x.gained.is not) ∙ there in
                other_push client drawn x.told.entry (λ is. not (sym is ∙ x.mine)) ∙ d.each client c ring was_at old

  unfoldable pub primary_more : (o : PrimaryTurn) → HasRested k s t w o ⊎ HasServed k s t w o → (o ≢ did.Served → t.seen ≡ s.seen) → t.clients ≡ s.clients → HasDrawnMore t drawn
  primary_more o (inl r) seen clients = none_more (drawn_still clients r.rings.answers (seen (λ e. idle (sym r.says ∙ e))))
    where
      idle : did.Idle ≡ did.Served → ⊥
      idle e = cc
  primary_more o (inr x) seen clients = record { more = x.told.entry ∷ []; has = served_more o x clients }

  -- ---- in a client's turn

  module _ (number : ℕ) (said : Turn) (h : IsClientTurn s.seen t.seen number s.clients t.clients s.rings t.rings said) (rest : t ≡ record s { clients = t.clients; rings = t.rings; seen = t.seen }) where
    long : length t.clients ≡ length s.clients
    long = ap length h.goes.stands ∙ length_at s.clients number h.goes.is

    different' : (client : ℕ) → eqb client number ≡ false → client ≡ number → ⊥
    different' client e same = true≢false (sym (ap (λ (n : ℕ). eqb n number) same ∙ itself number) ∙ e)

    here_is : (client : ℕ) (c : Caller) → client ≡ number → slice_get t.clients client ≡ Some c → h.goes.is ≡ c
    here_is client c same at = some_one h.goes.is c (sym (ap (λ (l : List Caller). slice_get l number) h.goes.stands ∙ set_there s.clients number h.goes.was h.goes.is h.goes.stood) ∙ ap (slice_get t.clients) (sym same) ∙ at)

    was_there : (client : ℕ) (c : Caller) → (client ≡ number → ⊥) → slice_get t.clients client ≡ Some c → slice_get s.clients client ≡ Some c
    was_there client c not at = sym (ap (λ (l : List Caller). slice_get l client) h.goes.stands ∙ set_else s.clients number client h.goes.is not) ∙ at

    pub nothing_told : IsToldNothing s.seen t.seen number s.rings t.rings h.goes.was h.goes.is → HasDrawn t drawn
    nothing_told x = record {
      rising = d.rising;
      seen = λ e has. subst (λ (n : ℕ). e.ticket < n) (sym x.seen) (d.seen e has);
      whose = λ e has. let l = d.whose e has in let n = long in omega (arith, l, n);
      each = λ client c ring at there. by client c ring at (ap (λ (l : List (Buffer (Answer N))). slice_get l client) (sym x.answers) ∙ there) (eqb client number) refl;
    }
      where
        by : (client : ℕ) (c : Caller) (ring : Buffer (Answer N)) → slice_get t.clients client ≡ Some c → slice_get s.rings.answers client ≡ Some ring → (b : Bool) → eqb client number ≡ b → entries_of client drawn ≡ entries_in c.told ++ answered_in ring.items
        by client c ring at there true e =
            let same = eqb-true client number e in
            d.each client h.goes.was ring (ap (slice_get s.clients) same ∙ h.goes.stood) there ∙ (λ i. entries_in ((sym x.told ∙ ap (λ (a : Caller). a.told) (here_is client c same at)) i) ++ answered_in ring.items)
        by client c ring at there false e = d.each client c ring (was_there client c (different' client e) at) there

    pub more_told : IsToldMore s.seen t.seen number s.rings t.rings h.goes.was h.goes.is → HasDrawn t drawn
    more_told x = record {
      rising = d.rising;
      seen = λ e has. subst (λ (n : ℕ). e.ticket < n) (sym x.seen) (d.seen e has);
      whose = λ e has. let l = d.whose e has in let n = long in omega (arith, l, n);
      each = λ client c ring at there. by client c ring at there (eqb client number) refl;
    }
      where
        by : (client : ℕ) (c : Caller) (ring : Buffer (Answer N)) → slice_get t.clients client ≡ Some c → slice_get t.rings.answers client ≡ Some ring → (b : Bool) → eqb client number ≡ b → entries_of client drawn ≡ entries_in c.told ++ answered_in ring.items
        by client c ring at there true e =
            let same = eqb-true client number e in
            let is : x.taken.is ≡ ring = some_one x.taken.is ring
            (sym (ap (λ (l : List (Buffer (Answer N))). slice_get l number) x.taken.stands ∙ set_there s.rings.answers number x.taken.was x.taken.is x.taken.stood) ∙ ap (slice_get t.rings.answers) (sym same) ∙ there) in
            d.each client h.goes.was x.taken.was (ap (slice_get s.clients) same ∙ h.goes.stood) (ap (slice_get s.rings.answers) same ∙ x.taken.stood)
            ∙ (λ i. entries_in h.goes.was.told ++ answered_in (x.taken.so.0 i))
            ∙ sym (append_assoc (entries_in h.goes.was.told) (x.answer.entry ∷ []) (answered_in x.taken.is.items))
            ∙ (λ i. (entries_in h.goes.was.told ++ sym x.is i ∷ []) ++ answered_in x.taken.is.items)
            ∙ (λ i. sym (entries_push h.goes.was.told x.new) i ++ answered_in x.taken.is.items)
            ∙ (λ i. entries_in ((sym x.told ∙ ap (λ (a : Caller). a.told) (here_is client c same at)) i) ++ answered_in (is i).items)
        by client c ring at there false e =
            let not = different' client e in
            d.each client c ring (was_there client c not at) (sym (ap (λ (l : List (Buffer (Answer N))). slice_get l client) x.taken.stands ∙ set_else s.rings.answers number client x.taken.is not) ∙ there)

    pub itself_told : (x : IsToldByItself s.seen t.seen number s.rings t.rings h.goes.was h.goes.is) → HasDrawn t (drawn ++ x.new.entry ∷ [])
    itself_told x = record {
      rising = rises_push drawn x.new.entry d.rising (later x.new.entry x.drawn);
      seen = seen_more x.new.entry x.drawn;
      whose = whose_more x.new.entry (length t.clients) (sym long) (let l = slice_get_within s.clients number h.goes.was h.goes.stood in let m = x.mine in let n = long in omega (arith, l, m, n));
      each = λ client c ring at there. by client c ring at (ap (λ (l : List (Buffer (Answer N))). slice_get l client) (sym x.answers) ∙ there) (eqb client number) refl;
    }
      where
        by : (client : ℕ) (c : Caller) (ring : Buffer (Answer N)) → slice_get t.clients client ≡ Some c → slice_get s.rings.answers client ≡ Some ring → (b : Bool) → eqb client number ≡ b → entries_of client (drawn ++ x.new.entry ∷ []) ≡ entries_in c.told ++ answered_in ring.items
        by client c ring at there true e =
            let same = eqb-true client number e in
            let stood = ap (slice_get s.clients) same ∙ h.goes.stood in
            let once = w.once client h.goes.was ring stood there in
            let gone = ap gone_of x.idle in
            let empty = no_answers ring.items (omega (arith, once, gone)) in
            own_push client drawn x.new.entry (x.mine ∙ sym same)
            ∙ (λ i. (d.each client h.goes.was ring stood there ∙ (λ j. entries_in h.goes.was.told ++ empty j) ∙ append-nil (entries_in h.goes.was.told)) i ++ x.new.entry ∷ [])
            ∙ sym (entries_push h.goes.was.told x.new)
            ∙ (λ i. entries_in ((sym x.told ∙ ap (λ (a : Caller). a.told) (here_is client c same at)) i))
            ∙ sym (append-nil (entries_in c.told))
            ∙ (λ i. entries_in c.told ++ sym empty i)
        by client c ring at there false e =
            let not = different' client e in
            other_push client drawn x.new.entry (λ is. not (sym is ∙ x.mine)) ∙ d.each client c ring (was_there client c not at) there

    unfoldable pub client_drawn : IsToldNothing s.seen t.seen number s.rings t.rings h.goes.was h.goes.is ⊎ (IsToldMore s.seen t.seen number s.rings t.rings h.goes.was h.goes.is ⊎ IsToldByItself s.seen t.seen number s.rings t.rings h.goes.was h.goes.is) → HasDrawnMore t drawn
    client_drawn (inl x) = none_more (nothing_told x)
    client_drawn (inr (inl x)) = none_more (more_told x)
    client_drawn (inr (inr x)) = record { more = x.new.entry ∷ []; has = itself_told x }

    unfoldable pub client_more : HasDrawnMore t drawn
    client_more = client_drawn (client_told k s t w number said h rest)

  -- ---- in a step

  unfoldable pub step_more : (m : Step) → IsStep k m s t → HasDrawnMore t drawn
  step_more (TurnOf (actor.Client number) (turned.Client o)) h = client_more number o h.0 h.1
  step_more (TurnOf (actor.Client number) (turned.Worker o)) h = absurd h
  step_more (TurnOf (actor.Client number) (turned.Primary o)) h = absurd h
  step_more (TurnOf (actor.Worker number) o) h = no_worker k s t w number o h
  step_more (TurnOf actor.Primary (turned.Client o)) h = absurd h
  step_more (TurnOf actor.Primary (turned.Worker o)) h = absurd h
  step_more (TurnOf actor.Primary (turned.Primary o)) h = primary_more o (primary_did k s t w o h.0) h.0.seen (ap (λ (x : GlobalState N). x.clients) h.1)
  step_more (CallOf file o) h = none_more (drawn_still (ap (λ (x : GlobalState N). x.clients) h.rest) (ap (λ (x : GlobalState N). x.rings.answers) h.rest) (ap (λ (x : GlobalState N). x.seen) h.rest))

-- ---- steps, one after the other

module _ {N : Type 0} (k : Start) where
  unfoldable pub steps_more : (may : Step → GlobalState N → Type 0) (ms : List Step) (s t : GlobalState N) → AreStepsWhere k may ms s t → ServesAlone k s → (drawn : List Entry) → HasDrawn s drawn → HasDrawnMore t drawn
  steps_more may [] s t a w drawn d = record { more = []; has = subst (λ (x : GlobalState N × List Entry). HasDrawn x.0 x.1) (λ i. (sym a i, sym (append-nil drawn) i)) d }
  steps_more may (m ∷ ms) s t a w drawn d =
      let one = step_more k s a.0 w drawn d m a.2 in
      let all = steps_more may ms a.0 t a.3 (step_then k s a.0 w m a.2) (drawn ++ one.more) one.has in
      record { more = one.more ++ all.more; has = subst (HasDrawn t) (append_assoc drawn one.more all.more) all.has }

  -- Once nothing is under way, they are the transcripts merged.
  pub drawn_merged : (t : GlobalState N) (drawn : List Entry) → ServesAlone k t → AreIdle t.clients → HasDrawn t drawn → IsMerged (lists_of t.clients) drawn
  drawn_merged t drawn w idle d = record { rising = d.rising; each = each }
    where
      each : (client : ℕ) → entries_of client drawn ≡ transcript (lists_of t.clients) client
      each client = by (dec_le (suc client) (length t.clients))
        where
          by : Dec (suc client ≤ length t.clients) → entries_of client drawn ≡ transcript (lists_of t.clients) client
          by (yes low) =
              let c = caller_at t.clients client low in
              let same = w.each in
              let r = caller_at t.rings.answers client (omega (arith, low, same)) in
              let once = w.once client c.0 r.0 c.1 r.1 in
              let none = ap gone_of (idle client c.0 c.1) in
              let empty = no_answers r.0.items (omega (arith, once, none)) in
              d.each client c.0 r.0 c.1 r.1 ∙ (λ i. entries_in c.0.told ++ empty i) ∙ append-nil (entries_in c.0.told) ∙ sym (ap (λ (o : Option (List Entry)). unwrap_or o []) (list_at t.clients client c.0 c.1))
          by (no past) =
              none_of client drawn (λ e has is. let low = d.whose e has in absurd (omega (arith, low, is, past))) ∙ sym (list_past t.clients client (omega (arith, past)))

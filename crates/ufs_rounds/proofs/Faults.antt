-- The entries that turns draw tell the faults of the store's disk, one turn after the other.
use Rattle.std.proofs.Common.{◌≡◌, ◌≢◌, ◌⊎◌, inl, inr, ℕ, ◌+◌, ◌-◌, ◌^◌, ◌<◌, ◌≤◌, min, Bool, true, false, is_some, length, List, [], ◌∷◌, ◌++◌, None, Ok, Option, Some, refl, ap, sym, ◌∙◌, subst, true≢false, arith}
use Rattle.ufs_base.specs.Faults.{RoseTo}
use Rattle.ufs_primary.specs.OfAtPrimary.{IsDoneHere}
use Rattle.ufs_primary.specs.OfAtPrimary.{IsDirDone}
use Rattle.ufs_primary.specs.OfAtPrimary.{excuse_at}
use Rattle.ufs_primary.specs.OfAtPrimary.{All, ByNames, IsAllHere, IsByNamesHere, IsLackedHere, IsOnFileHere, IsOnNoneHere, IsServed, IsServedInRoom, Lacked, OnFile, OnNone}
use Rattle.ufs_primary.specs.OfAtPrimary.{StockState}
use Rattle.ufs_primary.proofs.OfAtPrimary.{no_fault}
use Rattle.ufs_crash_laws.specs.Changes.{asks_commit}
use Rattle.ufs_file.specs.Content.{Content, IsContentOf}
use Rattle.ufs_file.specs.Hand.{FileState}
use Rattle.ufs_bitmap.specs.Blocks.{BlockSet}
use Rattle.ufs_primary.specs.OfHeld.{Applied, IsServeCause, Unread}
use Rattle.ufs_primary.specs.OfHeld.{ExcusesByStop, Raises, RestsByReply, StopsByReply, fault_by}
use Rattle.ufs_joint.specs.Cells.{Start, StoreCell, View}
use Rattle.ufs_layout.specs.declared.geometry.Geometry.{Geometry}
use Rattle.ufs_model.specs.Asks.{file_in}
use Rattle.ufs_model.specs.FileCalls.{is_on_file}
use Rattle.ufs_model.specs.History.{is_excused}
use Rattle.ufs_model.specs.declared.data.Ask.{Ask}
use Rattle.ufs_model.specs.declared.data.Desc.{Desc}
use Rattle.ufs_model.specs.declared.data.Entry.{Entry}
use Rattle.ufs_model.specs.declared.data.Errno.{Errno}
use Rattle.ufs_model.specs.declared.data.Excuse.{Excuse}
use Rattle.ufs_model.specs.declared.data.Excuse.TheVariants as excuse
use Rattle.ufs_model.specs.declared.data.Op.{Op}
use Rattle.ufs_model.specs.declared.data.Op.TheVariants as op
use Rattle.ufs_model.specs.declared.data.Reply.{Reply}
use Rattle.ufs_model.specs.declared.data.Reply.TheVariants as reply
use Rattle.ufs_msg.specs.Answers.{Told}
use Rattle.ufs_store.specs.Refusals.{IsTold, stop_after}
use Rattle.ufs_store.specs.State.{StoreState, geometry_of_store}
use Rattle.ufs_told.proofs.Beside.{no_device, no_stopped, stop_stays}
use Rattle.ufs_told.proofs.CausedLemmas.{own_caused}
use Rattle.ufs_told.proofs.ToldLemmas.{none_caused, none_told, one_raised, one_told, served_told, told_on}
use Rattle.ufs_told.specs.Numbers.{most_raised}
use Rattle.ufs_told.specs.Replies.{device_in, is_refused, may_turn, stopped_in}
use Rattle.ufs_told.specs.Told.{AreFaultsTold, HasRisen, IsCountStill, IsRaisedBy, IsReadFault, IsStopFault}
use Rattle.ufs_primary.specs.OfTurns.{Runs, StopsByFault, stop_in, tally_in}
use Rattle.ufs_primary.specs.OfTurns.{fault_told}
use Rattle.ufs_rounds.specs.Alone.{ServesAlone}
use Rattle.ufs_client.proofs.Replies.{plain_calm}
use Rattle.ufs_client.specs.Played.{IsMerged}
use Rattle.ufs_model.specs.declared.data.Actor.{Actor}
use Rattle.ufs_rounds.specs.Dealing.{HaveAskedNothing}
use Rattle.ufs_rounds.specs.Drawn.{HasDrawn}
use Rattle.ufs_rounds.specs.Rest.{IsAtRest, IsInOrder, IsPlayed}
use Rattle.ufs_rounds.specs.Scripts.{lists_of}
use Rattle.ufs_rounds.specs.Faults.{counts_in}
use Rattle.ufs_rounds.specs.Steps.{AreStepsWhere, CallOf, IsStep, Step, TurnOf}
use Rattle.ufs_rounds.specs.Turns.{GlobalState, IsClientTurn, IsPrimaryTurn}
use Rattle.ufs_rounds.proofs.AloneRounds.{no_worker, step_then, steps_alone}
use Rattle.ufs_caller.specs.declared.turn.Turn.{Turn}
use Rattle.ufs_primary.specs.declared.turn.PrimaryTurn.{PrimaryTurn}
use Rattle.ufs_primary.specs.declared.turn.PrimaryTurn.TheVariants as did
use Rattle.ufs_model.specs.declared.data.Actor.TheVariants as actor
use Rattle.ufs_rounds.specs.declared.turned.Turned.TheVariants as turned
use Rattle.ufs_rounds.proofs.AlonePrimary.{HasRested, HasServed, primary_did}
use Rattle.ufs_rounds.proofs.Drawing.{HasDrawnMore, IsToldByItself, IsToldMore, IsToldNothing, client_drawn, client_more, client_told, drawn_merged, none_more, primary_more, step_more, steps_more}
use Rattle.ufs_rounds.proofs.Entries.{one_history}
use Rattle.ufs_rounds.proofs.InTurn.{none_drawn}
use Rattle.ufs_rounds.proofs.Telling.{rests_caused, said_stop, stops_caused, told_rests, told_stops}

-- the store as it was at first, with the faults that its disk has counted here, and where it has stopped here
abbrev pub faults_in : StoreState → List (Unit {0} × StoreCell) → StoreState
faults_in s cells = record s { faults = (tally_in cells).faults; stop = stop_in cells }

-- The entries tell the store's faults between both, where the way to it tells of it.
abbrev pub TellBetween : (List (Unit {0} × StoreCell) → StoreState) → Option View → Option View → List Entry → Type 0
TellBetween by (Some v) (Some w) entries = AreFaultsTold (by v.store) (by w.store) entries
TellBetween by _ _ entries = Unit {0}

-- These entries were drawn from one state on to another, and tell what the store counted between; the way to the store tells of it in both,
-- or in neither.
pub record TellFaults {N : Type 0} (s : StoreState) (from to : GlobalState N) (entries : List Entry) : Type 0 where
  pub telling : is_some to.store ≡ is_some from.store
  pub told : TellBetween (counts_in s) from.store to.store entries

-- ---- one after the other

none_between : (by : List (Unit {0} × StoreCell) → StoreState) (o : Option View) → TellBetween by o o []
none_between by None = tt
none_between by (Some v) = none_told (by v.store)

-- nothing was drawn, and the store is as it was
none_tell : {N : Type 0} (s : StoreState) (from to : GlobalState N) → to.store ≡ from.store → TellFaults s from to []
none_tell s from to same = record { telling = ap is_some same; told = subst (λ (o : Option View). TellBetween (counts_in s) from.store o []) (sym same) (none_between (counts_in s) from.store) }

raises_still : (most : ℕ) (o : Option View) → Raises o o most
raises_still most None = tt
raises_still most (Some v) = record { epoch = omega arith; epoch_most = omega arith; number = omega arith; number_most = omega arith }

between_then : (by : List (Unit {0} × StoreCell) → StoreState) (o p q : Option View) (front back : List Entry) → is_some p ≡ is_some o → TellBetween by o p front → TellBetween by p q back → TellBetween by o q (front ++ back)
between_then by None p q front back telling a b = tt
between_then by (Some v) None q front back telling a b = absurd (true≢false (sym telling))
between_then by (Some v) (Some u) None front back telling a b = tt
between_then by (Some v) (Some u) (Some w) front back telling a b = told_on (by v.store) (by u.store) (by w.store) front back a b

tell_then : {N : Type 0} (s : StoreState) (from mid to : GlobalState N) (front back : List Entry) → TellFaults s from mid front → TellFaults s mid to back → TellFaults s from to (front ++ back)
tell_then s from mid to front back a b = record { telling = b.telling ∙ a.telling; told = between_then (counts_in s) from.store mid.store to.store front back a.telling a.told b.told }

-- one entry, with the numbers that rose in its turn
with_numbers : (s : StoreState) (o p : Option View) (e : Entry) → TellBetween (faults_in s) o p (e ∷ []) → Raises o p (most_raised (geometry_of_store s)) → TellBetween (counts_in s) o p (e ∷ [])
with_numbers s None p e told raised = tt
with_numbers s (Some v) None e told raised = tt
with_numbers s (Some v) (Some w) e told raised = record {
  each = λ fault has. of fault (told.each fault has);
  once = told.once;
  caused = told.caused;
  halted = told.halted;
  kept = told.kept;
  stopped = told.stopped;
  stops = told.stops;
  apart = told.apart;
  count = told.count;
  quiet = told.quiet;
  numbers = one_raised (counts_in s v.store) (counts_in s w.store) refl (record { epoch = raised.epoch; epoch_most = raised.epoch_most; number = raised.number; number_most = raised.number_most });
}
  where
    of : (fault : ℕ) → IsReadFault (faults_in s v.store) (faults_in s w.store) fault ⊎ IsStopFault (faults_in s v.store) (faults_in s w.store) fault
        → IsReadFault (counts_in s v.store) (counts_in s w.store) fault ⊎ IsStopFault (counts_in s v.store) (counts_in s w.store) fault
    of fault (inl r) = inl (record { risen = r.risen; counted = r.counted; below = r.below })
    of fault (inr x) = inr (record { going = x.going; stop = x.stop; risen = x.risen })

-- ---- what one reply tells

clash_none : {X : Type 0} (n : ℕ) → None ≡ Some n → X
clash_none n e = absurd (no e)
  where
    no : None ≡ Some n → ⊥
    no f = cc

some_is : (m n : ℕ) → Some m ≡ Some n → m ≡ n
some_is m n e = cc

module _ (s : StoreState) (v w : View) (e : Entry) where
  abbrev old : StoreState
  old = faults_in s v.store

  abbrev new : StoreState
  new = faults_in s w.store

  raised : IsRaisedBy 1 old new
  raised = one_raised old new refl (record { epoch = omega arith; epoch_most = omega arith; number = omega arith; number_most = omega arith })

  -- A request that commits nothing, by the fault of its read.
  rests_tell : RestsByReply (Some v) (Some w) e.reply → asks_commit e.op ≡ false → stopped_in e.reply ≡ None → ((n : ℕ) → device_in e.reply ≡ Some n → may_turn e.op ≡ true) → AreFaultsTold old new (e ∷ [])
  rests_tell rests none going turns = one_told old new e (told_rests old new e.reply rests.0 rests.1 rests.2.1.count stop going) (rests_caused old new e.reply e.op none stop going turns) raised
    where
      stop : new.stop ≡ old.stop
      stop = rests.2.0 ∙ stop_stays (stop_in v.store)

  -- One that asks for a commit, by the fault at which the store stopped.
  stops_tell : (epochs commits : ℕ) → StopsByReply (Some v) (Some w) epochs commits e.reply → ExcusesByStop (Some v) e.reply → asks_commit e.op ≡ true → AreFaultsTold old new (e ∷ [])
  stops_tell epochs commits stops its asks =
      one_told old new e (told_stops old new e.reply stops.0 stops.1 stops.3.count stops.2 its) (stops_caused old new e.reply stops.0 stops.1 stops.3.count stops.2 its e.op asks) raised

-- No call of the disk was made for it, and it is told none.
pub record IsCalm (e : Entry) : Type 0 where
  pub device : device_in e.reply ≡ None
  pub stopped : stopped_in e.reply ≡ None
  pub refused : asks_commit e.op ≡ true → is_refused e.reply ≡ true

calm_tell : (c : StoreState) (e : Entry) → IsRaisedBy 1 c c → IsCalm e → AreFaultsTold c c (e ∷ [])
calm_tell c e raised calm = one_told c c e
    (served_told c c e.reply (inl (record { told = subst (IsTold c.faults c.faults) (sym calm.device) refl; stop = sym (stop_stays c.stop) ∙ ap (stop_after c.stop) (sym calm.device) })) (λ n is. clash_none n (sym calm.stopped ∙ is)) (λ n is. calm.device))
    (own_caused c e.op e.reply calm.device calm.stopped calm.refused) raised

-- what excuses nothing, and refuses a commit, is told none
plain_told : (e : Entry) → is_excused e.reply ≡ false → (asks_commit e.op ≡ true → (errno : Errno) × (e.reply ≡ reply.Refused errno)) → IsCalm e
plain_told e plain refused =
    let calm = plain_calm e.reply plain in
    record { device = no_device e.reply calm; stopped = no_stopped e.reply calm; refused = λ asks. ap is_refused (refused asks).1 }

-- ---- where the way to the store tells of it

one_rests : (s : StoreState) (o p : Option View) (e : Entry) → RestsByReply o p e.reply → asks_commit e.op ≡ false → stopped_in e.reply ≡ None → ((n : ℕ) → device_in e.reply ≡ Some n → may_turn e.op ≡ true) → TellBetween (faults_in s) o p (e ∷ [])
one_rests s None p e rests none going turns = tt
one_rests s (Some v) None e rests none going turns = tt
one_rests s (Some v) (Some w) e rests none going turns = rests_tell s v w e rests none going turns

one_stops : (s : StoreState) (o p : Option View) (e : Entry) (epochs commits : ℕ) → StopsByReply o p epochs commits e.reply → ExcusesByStop o e.reply → asks_commit e.op ≡ true → TellBetween (faults_in s) o p (e ∷ [])
one_stops s None p e epochs commits stops its asks = tt
one_stops s (Some v) None e epochs commits stops its asks = tt
one_stops s (Some v) (Some w) e epochs commits stops its asks = stops_tell s v w e epochs commits stops its asks

pub one_calm : (s : StoreState) (o p : Option View) (e : Entry) → p ≡ o → IsCalm e → TellBetween (faults_in s) o p (e ∷ [])
one_calm s o p e same calm = subst (λ (q : Option View). TellBetween (faults_in s) o q (e ∷ [])) (sym same) (by o)
  where
    by : (q : Option View) → TellBetween (faults_in s) q q (e ∷ [])
    by None = tt
    by (Some v) = calm_tell (faults_in s v.store) e (raised s v v e) calm

-- ---- calls that no request made

module _ (old new : StoreState) where
  risen : (fault : ℕ) → RoseTo old.faults new.faults fault → HasRisen old.faults new.faults fault
  risen fault is = record { risen = by; counted = omega (arith, is.number); within = omega (arith, is.number, is.rose) }
    where
      by : (old.faults < fault) ⊎ (fault ≡ 2 ^ 64 - 1)
      by = grind (arith, is.number, is.rose)

  stopped_by : (o : Option ℕ) → IsTold old.faults new.faults o → new.stop ≡ stop_after old.stop o → (n : ℕ) → old.stop ≡ None → new.stop ≡ Some n → HasRisen old.faults new.faults n
  stopped_by None count stop n going is = clash_none n (sym going ∙ sym (stop_stays old.stop) ∙ sym stop ∙ is)
  stopped_by (Some m) rose stop n going is =
      let same = some_is m n (sym (ap (λ (o : Option ℕ). stop_after o (Some m)) going) ∙ sym stop ∙ is) in
      subst (HasRisen old.faults new.faults) same (risen m rose)

  counted_by : (o : Option ℕ) → IsTold old.faults new.faults o → min old.faults (2 ^ 64 - 1) ≤ new.faults
  counted_by None same = omega (arith, same)
  counted_by (Some m) rose = let r = rose.rose in omega (arith, r)

  quiet_by : (o : Option ℕ) → IsTold old.faults new.faults o → new.stop ≡ stop_after old.stop o → new.stop ≡ None → IsCountStill old.faults new.faults
  quiet_by None same stop going = inl same
  quiet_by (Some m) rose stop going = by old.stop refl
    where
      by : (o : Option ℕ) → old.stop ≡ o → IsCountStill old.faults new.faults
      by None is = clash_none m (sym going ∙ stop ∙ ap (λ (o : Option ℕ). stop_after o (Some m)) is)
      by (Some n) is = clash_none n (sym going ∙ stop ∙ ap (λ (o : Option ℕ). stop_after o (Some m)) is)

  -- At most one failed, and then the store has stopped at it, or had before.
  pub unasked_told : (fault : Option ℕ) → IsTold old.faults new.faults fault → new.stop ≡ stop_after old.stop fault → IsRaisedBy 0 old new → AreFaultsTold old new []
  unasked_told fault count stop numbers = record {
    each = λ n has. absurd has;
    once = (none_told old).once;
    caused = none_caused;
    halted = λ n is. tt;
    kept = λ n is. stop ∙ ap (λ (o : Option ℕ). stop_after o fault) is;
    stopped = λ n going is. stopped_by fault count stop n going is;
    stops = tt;
    apart = λ n going is has. has;
    count = counted_by fault count;
    quiet = λ none going. quiet_by fault count stop going;
    numbers = numbers;
  }

still_raised : (s : StoreState) (v w : View) → IsRaisedBy 0 (faults_in s v.store) (faults_in s w.store)
still_raised s v w =
    let n = (none_told (faults_in s v.store)).numbers in
    record { geometry = n.geometry; raised = record { epoch = n.raised.epoch; epoch_most = n.raised.epoch_most; number = n.raised.number; number_most = n.raised.number_most } }

unasked_between : (s : StoreState) (o p : Option View) (fault : Option ℕ) (epochs commits : ℕ) → StopsByFault o p fault → Runs o p fault epochs commits → TellBetween (faults_in s) o p []
unasked_between s None p fault epochs commits stops ran = tt
unasked_between s (Some v) None fault epochs commits stops ran = tt
unasked_between s (Some v) (Some w) fault epochs commits stops ran = unasked_told (faults_in s v.store) (faults_in s w.store) fault ran.count stops (still_raised s v w)

-- ---- a request that the primary serves

said_device : (r : Reply) (n : ℕ) → device_in r ≡ Some n → r ≡ reply.Excused (excuse.Device n)
said_device (reply.Excused x) n is = by x is
  where
    by : (x : Excuse) → device_in (reply.Excused x) ≡ Some n → reply.Excused x ≡ reply.Excused (excuse.Device n)
    by (excuse.Device m) e = ap (λ (k : ℕ). reply.Excused (excuse.Device k)) (some_is m n e)
    by _ e = clash_none n e
said_device _ n is = clash_none n is

not_stopped : (r : Reply) → ((n : ℕ) → r ≡ reply.Excused (excuse.Stopped n) → ⊥) → stopped_in r ≡ None
not_stopped r never = by (stopped_in r) refl
  where
    by : (o : Option ℕ) → stopped_in r ≡ o → stopped_in r ≡ None
    by None e = e
    by (Some n) e = absurd (never n (said_stop r n e))

desc_there : (o : Option Desc) (file : ℕ) → file_in o ≡ Some file → (d : Desc) × (o ≡ Some d)
desc_there None file is = clash_none file is
desc_there (Some d) file is = (d, refl)

own_bytes : (c : Content) → IsContentOf c c.bytes
own_bytes c = record { long = refl; same = λ place there. refl }

module _ (f read : FileState) (pool : BlockSet) (d : Desc) where
  never_stopped : (request : Op) (n : ℕ) → IsServeCause f read pool d request (excuse.Stopped n) → ⊥
  never_stopped request n (Applied why) = (why read.content.bytes (own_bytes read.content)).cause
  never_stopped request n (Unread allowed lacks of) = absurd cc

  -- a `seek` needs no block, so no read of one fails
  never_read : (n : ℕ) (request : Op) → may_turn request ≡ false → is_on_file request ≡ true → IsServeCause f read pool d request (excuse.Device n) → ⊥
  never_read n request turns kind (Applied why) = (why read.content.bytes (own_bytes read.content)).cause
  never_read n (op.Seek fd' from far) turns kind (Unread allowed lacks of) = lacks (λ place need. let low = need.below in absurd (omega (arith, low)))
  never_read n (op.OpenFile path r w creat excl trunc append) turns kind (Unread allowed lacks of) = absurd (true≢false turns)
  never_read n (op.Close fd') turns kind (Unread allowed lacks of) = absurd (true≢false (sym kind))
  never_read n (op.Read fd' m) turns kind (Unread allowed lacks of) = absurd (true≢false turns)
  never_read n (op.Write fd' bytes) turns kind (Unread allowed lacks of) = absurd (true≢false turns)
  never_read n (op.Pread fd' m at) turns kind (Unread allowed lacks of) = absurd (true≢false turns)
  never_read n (op.Pwrite fd' bytes at) turns kind (Unread allowed lacks of) = absurd (true≢false turns)
  never_read n (op.Trunc fd' size) turns kind (Unread allowed lacks of) = absurd (true≢false turns)
  never_read n (op.Fsync fd') turns kind (Unread allowed lacks of) = absurd (true≢false turns)
  never_read n op.Sync turns kind (Unread allowed lacks of) = absurd (true≢false turns)
  never_read n (op.Mkdir path) turns kind (Unread allowed lacks of) = absurd (true≢false turns)
  never_read n (op.Rmdir path) turns kind (Unread allowed lacks of) = absurd (true≢false turns)
  never_read n (op.Unlink path) turns kind (Unread allowed lacks of) = absurd (true≢false turns)
  never_read n (op.Rename path other) turns kind (Unread allowed lacks of) = absurd (true≢false turns)
  never_read n (op.Stat path) turns kind (Unread allowed lacks of) = absurd (true≢false (sym kind))
  never_read n (op.List path) turns kind (Unread allowed lacks of) = absurd (true≢false (sym kind))

  turns_on_file : (request : Op) (n : ℕ) → is_on_file request ≡ true → IsServeCause f read pool d request (excuse.Device n) → may_turn request ≡ true
  turns_on_file request n kind cause = by (may_turn request) refl
    where
      by : (b : Bool) → may_turn request ≡ b → may_turn request ≡ true
      by true e = e
      by false e = absurd (never_read n request e kind cause)

module _ (s : StoreState) (visible : Bool) (before after : Option View) (p q : StockState) (ask : Ask) (told : Told) where
  abbrev Tells : Type 0
  Tells = TellBetween (faults_in s) before after (told.entry ∷ [])

  on_file : IsOnFileHere visible before after p q ask told → Tells
  on_file x = by (asks_commit ask.op) refl x.served.done
    where
      same : told.entry.op ≡ ask.op
      same = x.served.of_ask.asked

      desc : (d : Desc) × (ask.desc ≡ Some d)
      desc = desc_there ask.desc x.file x.kind.of

      by : (b : Bool) → asks_commit ask.op ≡ b → IsDoneHere visible before after p.names q.names x.was x.is p.pool q.pool ask told.entry told.desc b → Tells
      by true asks d = one_stops s before after told.entry 2 2 d.halts d.halted (ap asks_commit same ∙ asks)
      by false none d = one_rests s before after told.entry d.served.halts (ap asks_commit same ∙ none)
          (not_stopped told.entry.reply (λ n is. never_stopped x.was.value.file x.is.value.file d.served.found desc.0 ask.op n (d.served.cause (excuse.Stopped n) is desc.0 desc.1)))
          (λ n is. ap may_turn same ∙ turns_on_file x.was.value.file x.is.value.file d.served.found desc.0 ask.op n x.kind.kind (d.served.cause (excuse.Device n) (said_device told.entry.reply n is) desc.0 desc.1))

  by_names : IsByNamesHere visible before after p q ask told → Tells
  by_names x =
      let d = x.served.done in
      one_rests s before after told.entry d.halts (ap asks_commit x.served.of_ask.asked ∙ x.kind.no_commit) (no_stopped told.entry.reply d.calm) (λ n is. clash_none n (sym (no_device told.entry.reply d.calm) ∙ is))

  on_none : IsOnNoneHere visible before after p q ask told → Tells
  on_none x = by ask.desc x.served.done
    where
      by : (o : Option Desc) → IsDirDone visible before after p.names q.names told.entry.reply o → Tells
      by None d = one_calm s before after told.entry d.store (record { device = ap device_in d.refused; stopped = ap stopped_in d.refused; refused = λ asks. ap is_refused d.refused })
      by (Some z) d = one_stops s before after told.entry 1 1 d.halts d.halted (ap asks_commit (x.served.of_ask.asked ∙ x.kind.fsync.1))

  all_here : IsAllHere visible before after p q ask told → Tells
  all_here x = one_stops s before after told.entry (1 + length x.olds) (1 + length x.olds) x.served.halts x.served.halted (ap asks_commit (x.served.of_ask.asked ∙ x.kind))

  -- one for which memory was wanting: a commit is told the stop, where the store had stopped
  lacked : IsLackedHere visible before after p q ask told → Tells
  lacked x = by (asks_commit ask.op) refl
    where
      op_same : asks_commit told.entry.op ≡ asks_commit ask.op
      op_same = ap asks_commit x.excused.of_ask.asked

      none : fault_told None ≡ fault_by told.entry.reply
      none = sym (ap fault_by x.excused.replied ∙ no_fault x.excused.stop)

      by : (b : Bool) → asks_commit ask.op ≡ b → Tells
      by true asks = one_stops s before after told.entry 0 0 (None, none, x.excused.rests.0, x.excused.rests.1) (x.excused.halted asks) (op_same ∙ asks)
      by false commits =
          let said = x.excused.replied ∙ ap (λ (stop : Option ℕ). reply.Excused (excuse_at stop)) (x.excused.plain commits) in
          one_rests s before after told.entry (None, none, x.excused.rests) (op_same ∙ commits) (ap stopped_in said) (λ n is. clash_none n (sym (ap device_in said) ∙ is))

  served_tells : IsServed visible before after p q ask told → Tells
  served_tells (OnFile x) = on_file x
  served_tells (ByNames x) = by_names x
  served_tells (OnNone x) = on_none x
  served_tells (All x) = all_here x
  served_tells (Lacked x) = lacked x

-- room was made for it before
in_room_tells : (s : StoreState) (visible : Bool) (before after : Option View) (p q : StockState) (ask : Ask) (told : Told) → IsServedInRoom visible before after p q ask told → TellBetween (faults_in s) before after (told.entry ∷ [])
in_room_tells s visible before after p q ask told x =
    let r = x.room in
    between_then (faults_in s) before x.then after [] (told.entry ∷ []) r.telling (unasked_between s before x.then r.fault r.most r.most r.stop r.ran) (served_tells s visible x.then after x.between q ask told x.served)

-- ---- step by step

module _ {N : Type 0} (k : Start) (first : StoreState) (formed : geometry_of_store first ≡ k.geometry) where
  module _ (s t : GlobalState N) (w : ServesAlone k s) (drawn : List Entry) (d : HasDrawn s drawn) where
    -- where the store is as it was
    itself_tells : (e : Entry) → t.store ≡ s.store → IsCalm e → TellFaults first s t (e ∷ [])
    itself_tells e same calm = record {
      telling = ap is_some same;
      told = with_numbers first s.store t.store e (one_calm first s.store t.store e same calm) (subst (λ (o : Option View). Raises s.store o (most_raised (geometry_of_store first))) (sym same) (raises_still (most_raised (geometry_of_store first)) s.store));
    }

    primary_tells : (o : PrimaryTurn) (h : IsPrimaryTurn k s.store t.store s.seen t.seen s.primary t.primary s.rings t.rings o) (x : HasRested k s t w o ⊎ HasServed k s t w o) (clients : t.clients ≡ s.clients)
        → TellFaults first s t (primary_more k s t w drawn d o x h.seen clients).more
    unfolding primary_more none_more
    primary_tells o h (inl r) clients = none_tell first s t (h.store (λ e. idle (sym r.says ∙ e)))
      where
        idle : did.Idle ≡ did.Served → ⊥
        idle e = cc
    primary_tells o h (inr x) clients = record {
      telling = h.telling;
      told = with_numbers first s.store t.store x.told.entry (in_room_tells first k.is_visible s.store t.store x.stock t.primary.stock x.request.ask x.told x.served)
          (subst (λ (g : Geometry). Raises s.store t.store (most_raised g)) (sym formed) h.raised);
    }

    client_tells : (number : ℕ) (said : Turn) (h : IsClientTurn s.seen t.seen number s.clients t.clients s.rings t.rings said) (rest : t ≡ record s { clients = t.clients; rings = t.rings; seen = t.seen })
        (x : IsToldNothing s.seen t.seen number s.rings t.rings h.goes.was h.goes.is ⊎ (IsToldMore s.seen t.seen number s.rings t.rings h.goes.was h.goes.is ⊎ IsToldByItself s.seen t.seen number s.rings t.rings h.goes.was h.goes.is))
        → TellFaults first s t (client_drawn k s t w drawn d number said h rest x).more
    unfolding client_drawn none_more
    client_tells number said h rest (inl x) = none_tell first s t (ap (λ (g : GlobalState N). g.store) rest)
    client_tells number said h rest (inr (inl x)) = none_tell first s t (ap (λ (g : GlobalState N). g.store) rest)
    client_tells number said h rest (inr (inr x)) = itself_tells x.new.entry (ap (λ (g : GlobalState N). g.store) rest) (plain_told x.new.entry x.plain x.refused)

    step_tells : (m : Step) (h : IsStep k m s t) → TellFaults first s t (step_more k s t w drawn d m h).more
    unfolding client_drawn step_more client_more none_more
    step_tells (TurnOf (actor.Client number) (turned.Client o)) h = client_tells number o h.0 h.1 (client_told k s t w number o h.0 h.1)
    step_tells (TurnOf (actor.Client number) (turned.Worker o)) h = absurd h
    step_tells (TurnOf (actor.Client number) (turned.Primary o)) h = absurd h
    step_tells (TurnOf (actor.Worker number) o) h = no_worker k s t w number o h
    step_tells (TurnOf actor.Primary (turned.Client o)) h = absurd h
    step_tells (TurnOf actor.Primary (turned.Worker o)) h = absurd h
    step_tells (TurnOf actor.Primary (turned.Primary o)) h = primary_tells o h.0 (primary_did k s t w o h.0) (ap (λ (x : GlobalState N). x.clients) h.1)
    step_tells (CallOf file o) h = none_tell first s t (ap (λ (x : GlobalState N). x.store) h.rest)

  steps_tell : (may : Step → GlobalState N → Type 0) (ms : List Step) (s t : GlobalState N) (a : AreStepsWhere k may ms s t) (w : ServesAlone k s) (drawn : List Entry) (d : HasDrawn s drawn) → TellFaults first s t (steps_more k may ms s t a w drawn d).more
  unfolding steps_more
  steps_tell may [] s t a w drawn d = none_tell first s t (ap (λ (x : GlobalState N). x.store) a)
  steps_tell may (m ∷ ms) s t a w drawn d =
      let one = step_more k s a.0 w drawn d m a.2 in
      tell_then first s a.0 t one.more (steps_more k may ms a.0 t a.3 (step_then k s a.0 w m a.2) (drawn ++ one.more) one.has).more (step_tells s a.0 w drawn d m a.2)
      (steps_tell may ms a.0 t a.3 (step_then k s a.0 w m a.2) (drawn ++ one.more) one.has)

  -- So the one history of a session that was played to the end tells what the store counted between its first state and its last.
  pub played_tells : (schedule : List Actor) (s t : GlobalState N) → ServesAlone k s → HaveAskedNothing s.clients → IsPlayed k schedule s t (Ok tt) → IsAtRest t.clients t.primary → (history : List Entry) → IsMerged (lists_of t.clients) history → TellFaults first s t history
  played_tells schedule s t w nothing p rest history merged =
      subst (TellFaults first s t) (one_history (lists_of t.clients) (one.more ++ two.more) history (drawn_merged k t (one.more ++ two.more) ended rest.idle two.has) merged)
      (tell_then first s p.then t one.more two.more (steps_tell (λ m u. Unit {0}) p.turns.turns s p.then p.turns.steps w [] (none_drawn k s w nothing)) (steps_tell IsInOrder p.goes.more p.then t steps begun one.more one.has))
    where
      steps : AreStepsWhere k IsInOrder p.goes.more p.then t
      steps = subst (AreStepsWhere k IsInOrder p.goes.more p.then) (sym p.goes.ends) p.goes.steps

      begun : ServesAlone k p.then
      begun = steps_alone k (λ m u. Unit {0}) p.turns.turns s p.then p.turns.steps w

      ended : ServesAlone k t
      ended = steps_alone k IsInOrder p.goes.more p.then t steps begun

      one : HasDrawnMore p.then []
      one = steps_more k (λ m u. Unit {0}) p.turns.turns s p.then p.turns.steps w [] (none_drawn k s w nothing)

      two : HasDrawnMore t one.more
      two = steps_more k IsInOrder p.goes.more p.then t steps begun one.more one.has

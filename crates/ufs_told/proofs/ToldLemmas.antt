-- A history tells each fault of the disk once.
use Rattle.std.proofs.Common.{◌≡◌, ◌≢◌, ◌-◌, ◌+◌, ◌*◌, ◌^◌, ◌≤◌, ◌<◌, ℕ, ◌⊎◌, inl, inr, length, List, [], ◌∷◌, ◌++◌, Option, Some, None, Bool, true, false, nat_eq, ap, sym, refl, subst, ◌∙◌, ne_eqb, arith}
use Rattle.std.specs.Prelude.{min, if◌then◌else◌}
use Rattle.std.specs.List.{AllByRecursion, IsDistinct, cons_option}
use Rattle.std.proofs.Math.Nat.{add-mul}
use Rattle.std.proofs.lemmas.List.{length-append}
use Rattle.std.proofs.lemmas.List.Elements.{filter_map-append}
use Rattle.ufs_base.specs.Faults.{RoseTo}
use Rattle.ufs_disk.proofs.Runs.{all_append, all_map}
use Rattle.ufs_model.specs.History.{AreFaultsOnce, IsLegal, IsLegalFrom, is_excused, share_fault}
use Rattle.ufs_model.specs.PosixTree.{PosixTree}
use Rattle.ufs_model.specs.declared.data.Entry.{Entry}
use Rattle.ufs_model.specs.declared.data.Excuse.TheVariants as excuse
use Rattle.ufs_model.specs.declared.data.Reply.{Reply}
use Rattle.ufs_model.specs.declared.data.Reply.TheVariants as reply
use Rattle.ufs_crash_laws.specs.Changes.{asks_commit}
use Rattle.ufs_told.specs.Replies.{TellsFaults, device_in, is_refused, may_turn, stopped_in}
use Rattle.ufs_told.proofs.Beside.{stop_stays}
use Rattle.ufs_hand_laws.proofs.Owning.{has_append}
use Rattle.ufs_hand_laws.specs.Owned.{Has}
use Rattle.ufs_store.specs.Refusals.{IsTold, stop_after}
use Rattle.ufs_store.specs.Numbers.{HasRaised}
use Rattle.ufs_store.specs.State.{StoreState, geometry_of_store}
use Rattle.ufs_store.proofs.Raised.{raises_none, raises_then}
use Rattle.ufs_layout.specs.declared.geometry.Geometry.{Geometry}
use Rattle.ufs_told.specs.Numbers.{most_raised}
use Rattle.ufs_told.specs.Told.{AreFaultsCaused, AreFaultsTold, AreHalted, AreRising, HasRead, HasRisen, IsCaused, IsCountStill, IsRaisedBy, IsReadFault, IsStopFault, StaysHalted, TellsRequest, TellsStop, devices_in, read_in, reads_in}

some_is : {a b : ℕ} → Some a ≡ Some b → a ≡ b
some_is e = cc

-- ---- no two entries tell one fault

differ : (a b : Reply) → ((m n : ℕ) → device_in a ≡ Some m → device_in b ≡ Some n → nat_eq m n ≡ false) → share_fault a b ≡ false
differ (reply.Excused (excuse.Device m)) (reply.Excused (excuse.Device n)) apart = apart m n refl refl
differ _ _ apart = refl

each_entry : (P : Entry → Type 0) → ((e : Entry) → P e) → (history : List Entry) → AllByRecursion P history
each_entry P holds [] = tt
each_entry P holds (e ∷ history) = (holds e, each_entry P holds history)

pub no_devices : (history : List Entry) → devices_in history ≡ [] → AllByRecursion (λ (e : Entry). device_in e.reply ≡ None) history
no_devices [] is = tt
no_devices (e ∷ history) is = by (device_in e.reply) refl (no_devices history) is
  where
    by : (o : Option ℕ) → device_in e.reply ≡ o → (devices_in history ≡ [] → AllByRecursion (λ (e : Entry). device_in e.reply ≡ None) history) → cons_option o (devices_in history) ≡ []
        → AllByRecursion (λ (e : Entry). device_in e.reply ≡ None) (e ∷ history)
    by None none rest is = (none, rest is)
    by (Some k) some rest is = cc

-- an entry tells a fault that none of those tells
tells_other : (fault : ℕ) (e : Entry) → device_in e.reply ≡ Some fault → (history : List Entry) → AllByRecursion (λ (n : ℕ). nat_eq fault n ≡ false) (devices_in history)
    → AllByRecursion (λ (later : Entry). share_fault e.reply later.reply ≡ false) history
tells_other fault e is [] apart = tt
tells_other fault e is (x ∷ history) apart = by (device_in x.reply) refl (tells_other fault e is history) apart
  where
    by : (o : Option ℕ) → device_in x.reply ≡ o → (AllByRecursion (λ (n : ℕ). nat_eq fault n ≡ false) (devices_in history) → AllByRecursion (λ (later : Entry). share_fault e.reply later.reply ≡ false) history)
        → AllByRecursion (λ (n : ℕ). nat_eq fault n ≡ false) (cons_option o (devices_in history)) → AllByRecursion (λ (later : Entry). share_fault e.reply later.reply ≡ false) (x ∷ history)
    by None none rest apart = (differ e.reply x.reply (λ m n own other. let no : None ≡ Some n = sym none ∙ other in cc), rest apart)
    by (Some k) some rest apart = (
      differ e.reply x.reply (λ m n own other. subst (λ (p : ℕ × ℕ). nat_eq p.0 p.1 ≡ false) (λ i. (some_is (sym is ∙ own) i, some_is (sym some ∙ other) i)) apart.0),
      rest apart.1,
    )

once_by : (e : Entry) (history : List Entry) (o : Option ℕ) → device_in e.reply ≡ o → (IsDistinct nat_eq (devices_in history) → AreFaultsOnce history) → IsDistinct nat_eq (cons_option o (devices_in history))
    → AllByRecursion (λ (later : Entry). share_fault e.reply later.reply ≡ false) history × AreFaultsOnce history
unfolding IsDistinct
once_by e history None none rest distinct =
    (each_entry (λ (later : Entry). share_fault e.reply later.reply ≡ false) (λ later. differ e.reply later.reply (λ m n own other. let no : None ≡ Some m = sym none ∙ own in cc)) history, rest distinct)
once_by e history (Some k) some rest distinct = (tells_other k e some history distinct.0, rest distinct.1)

once_each : (history : List Entry) → IsDistinct nat_eq (devices_in history) → AreFaultsOnce history
once_each [] distinct = tt
once_each (e ∷ history) distinct = once_by e history (device_in e.reply) refl (once_each history) distinct

pub once_told : (old new : StoreState) (history : List Entry) → AreFaultsTold old new history → AreFaultsOnce history
once_told old new history told = once_each history told.once

pub legal_told : (old new : StoreState) (start : PosixTree) (history : List Entry) → AreFaultsTold old new history → IsLegalFrom 0 start history → IsLegal start history
legal_told old new start history told entries = record { entries = entries; faults = once_told old new history told }

-- ---- lists of numbers

no_number : IsDistinct nat_eq []
unfolding IsDistinct
no_number = tt

one_number : (o : Option ℕ) → IsDistinct nat_eq (cons_option o [])
unfolding IsDistinct
one_number None = tt
one_number (Some n) = (tt, tt)

has_one : (fault : ℕ) (o : Option ℕ) → Has fault (cons_option o []) → o ≡ Some fault
has_one fault None has = absurd has
has_one fault (Some n) (inl e) = ap Some (sym e)
has_one fault (Some n) (inr has) = absurd has

apart_from : (n : ℕ) (xs : List ℕ) → ((m : ℕ) → Has m xs → n ≢ m) → AllByRecursion (λ (m : ℕ). nat_eq n m ≡ false) xs
apart_from n [] apart = tt
apart_from n (x ∷ xs) apart = (ne_eqb n x (apart x (inl refl)), apart_from n xs (λ m has. apart m (inr has)))

distinct_on : (xs ys : List ℕ) → IsDistinct nat_eq xs → IsDistinct nat_eq ys → ((m n : ℕ) → Has m xs → Has n ys → m ≢ n) → IsDistinct nat_eq (xs ++ ys)
unfolding IsDistinct
distinct_on [] ys front back apart = back
distinct_on (x ∷ xs) ys front back apart = (
  all_append (λ (m : ℕ). nat_eq x m ≡ false) xs ys front.0 (apart_from x ys (λ m has. apart x m (inl refl) has)),
  distinct_on xs ys front.1 back (λ m n has other. apart m n (inr has) other),
)

-- ---- rising numbers

one_rising : (o : Option ℕ) → AreRising (cons_option o [])
one_rising None = tt
one_rising (Some n) = (tt, tt)

below_all : (n : ℕ) (xs : List ℕ) → ((m : ℕ) → Has m xs → n < m) → AllByRecursion (λ (m : ℕ). n < m) xs
below_all n [] below = tt
below_all n (x ∷ xs) below = (below x (inl refl), below_all n xs (λ m has. below m (inr has)))

rising_on : (xs ys : List ℕ) → AreRising xs → AreRising ys → ((m n : ℕ) → Has m xs → Has n ys → m < n) → AreRising (xs ++ ys)
rising_on [] ys front back below = back
rising_on (x ∷ xs) ys front back below = (
  all_append (λ (m : ℕ). x < m) xs ys front.0 (below_all x ys (λ m has. below x m (inl refl) has)),
  rising_on xs ys front.1 back (λ m n has other. below m n (inr has) other),
)

-- two lists of nothing
nothing_on : (xs ys : List ℕ) → xs ++ ys ≡ [] → (xs ≡ []) × (ys ≡ [])
nothing_on [] ys e = (refl, e)
nothing_on (x ∷ xs) ys e = cc

-- ---- a count goes on

-- behind it
risen_on : (old mid new fault : ℕ) → HasRisen old mid fault → min mid (2 ^ 64 - 1) ≤ new → HasRisen old new fault
risen_on old mid new fault is goes = record { risen = is.risen; counted = omega (arith, is.counted, is.within, goes); within = is.within }

-- before it
risen_from : (old mid new fault : ℕ) → min old (2 ^ 64 - 1) ≤ mid → HasRisen mid new fault → HasRisen old new fault
risen_from old mid new fault goes is = record { risen = by is.risen; counted = is.counted; within = is.within }
  where
    by : (mid < fault) ⊎ (fault ≡ 2 ^ 64 - 1) → (old < fault) ⊎ (fault ≡ 2 ^ 64 - 1)
    by (inl less) = inl (omega (arith, goes, less, is.within))
    by (inr end) = inr end

still_on : (old mid new : ℕ) → IsCountStill old mid → IsCountStill mid new → IsCountStill old new
still_on old mid new first (inr end) = inr end
still_on old mid new (inl same) (inl still) = inl (still ∙ same)
still_on old mid new (inr end) (inl still) = inr (still ∙ end)

-- a call that failed raised it
rose_risen : (old now fault : ℕ) → RoseTo old now fault → HasRisen old now fault
rose_risen old now fault is = record { risen = by; counted = omega (arith, is.number); within = omega (arith, is.number, is.rose) }
  where
    by : (old < fault) ⊎ (fault ≡ 2 ^ 64 - 1)
    by = grind (arith, is.number, is.rose)

-- ---- one request

-- What a request did to the store's count and stop, and what its reply tells of it.
pub record Meets (old new : StoreState) (r : Reply) : Type 0 where
  pub kept : (fault : ℕ) → old.stop ≡ Some fault → new.stop ≡ Some fault
  pub device : (fault : ℕ) → device_in r ≡ Some fault → (IsReadFault old new fault × (new.stop ≡ old.stop)) ⊎ IsStopFault old new fault
  pub stopped : (fault : ℕ) → old.stop ≡ None → new.stop ≡ Some fault → HasRisen old.faults new.faults fault
  pub earlier : (fault : ℕ) → stopped_in r ≡ Some fault → old.stop ≡ Some fault
  pub count : min old.faults (2 ^ 64 - 1) ≤ new.faults
  pub quiet : device_in r ≡ None → new.stop ≡ None → IsCountStill old.faults new.faults

-- nothing was read for it
pub none_read : (s : StoreState) → HasRead s s None
none_read s = record { stop = refl; told = λ fault is. cc; untold = λ none. inl refl }

pub served_told : (old new : StoreState) (r : Reply) → TellsFaults old new r → ((fault : ℕ) → stopped_in r ≡ Some fault → old.stop ≡ Some fault) → ((fault : ℕ) → old.stop ≡ Some fault → device_in r ≡ None) → TellsRequest old new r
served_told old new r told stopped still = record { read = old; failed = None; before = none_read old; ends = inr (refl, told, stopped, still) }

-- a reply that is no excuse tells no stop
pub plain_going : (r : Reply) → is_excused r ≡ false → stopped_in r ≡ None
plain_going (reply.Excused x) e = cc
plain_going _ e = refl

-- where each stop is ruled out
goes_on : (stop : Option ℕ) → ((fault : ℕ) → stop ≡ Some fault → ⊥) → stop ≡ None
goes_on None never = refl
goes_on (Some fault) never = absurd (never fault refl)

-- a read, and its reply
module _ (old new : StoreState) (r : Reply) (failed : Option ℕ) (before : HasRead old new failed) (told : device_in r ≡ failed) (plain : stopped_in r ≡ None) where
  read_still : failed ≡ None → IsCountStill old.faults new.faults
  read_still none = by (before.untold none)
    where
      by : (new.faults ≡ old.faults) ⊎ RoseTo old.faults new.faults (2 ^ 64 - 1) → IsCountStill old.faults new.faults
      by (inl same) = inl same
      by (inr rose) = inr (sym rose.number)

  read_count : (o : Option ℕ) → failed ≡ o → min old.faults (2 ^ 64 - 1) ≤ new.faults
  read_count None none = by (read_still none)
    where
      by : IsCountStill old.faults new.faults → min old.faults (2 ^ 64 - 1) ≤ new.faults
      by (inl same) = omega (arith, same)
      by (inr end) = omega (arith, end)
  read_count (Some fault) some = let is = before.told fault some in omega (arith, is.0, is.1)

  read_device : (fault : ℕ) → device_in r ≡ Some fault → IsReadFault old new fault
  read_device fault is = let at = before.told fault (sym told ∙ is) in record { risen = omega (arith, at.0); counted = omega (arith, at.1); below = at.2 }

  read_meets : Meets old new r
  read_meets = record {
    kept = λ fault is. before.stop ∙ is;
    device = λ fault is. inl (read_device fault is, before.stop);
    stopped = λ fault going stop. let no : None ≡ Some fault = sym going ∙ sym before.stop ∙ stop in cc;
    earlier = λ fault is. let no : None ≡ Some fault = sym plain ∙ is in cc;
    count = read_count failed refl;
    quiet = λ none going. read_still (sym told ∙ none);
  }

-- the server's own
module _ (old read new : StoreState) (r : Reply) (before : HasRead old read None)
    (stopped : (fault : ℕ) → stopped_in r ≡ Some fault → read.stop ≡ Some fault) (still : (fault : ℕ) → read.stop ≡ Some fault → device_in r ≡ None) where
  first_still : IsCountStill old.faults read.faults
  first_still = read_still old read reply.Done None before refl refl refl

  first_count : min old.faults (2 ^ 64 - 1) ≤ read.faults
  first_count = read_count old read reply.Done None before refl refl None refl

  -- where it stops
  module _ (fault : ℕ) (rose : RoseTo read.faults new.faults fault) where
    stop_risen : HasRisen old.faults new.faults fault
    stop_risen = risen_from old.faults read.faults new.faults fault first_count (rose_risen read.faults new.faults fault rose)

    stop_count : min old.faults (2 ^ 64 - 1) ≤ new.faults
    stop_count = omega (arith, first_count, rose.rose)

    -- the reply tells so, or none does
    stop_meets : read.stop ≡ None → new.stop ≡ Some fault → ((n : ℕ) → device_in r ≡ Some n → n ≡ fault) → Meets old new r
    stop_meets going stop own = record {
      kept = λ n is. let no : None ≡ Some n = sym going ∙ before.stop ∙ is in cc;
      device = λ n is. inr (record { going = sym before.stop ∙ going; stop = stop ∙ ap Some (sym (own n is)); risen = subst (HasRisen old.faults new.faults) (sym (own n is)) stop_risen });
      stopped = λ n begun is. subst (HasRisen old.faults new.faults) (some_is (sym stop ∙ is)) stop_risen;
      earlier = λ n is. sym before.stop ∙ stopped n is;
      count = stop_count;
      quiet = λ none on. let no : None ≡ Some fault = sym on ∙ stop in cc;
    }

  -- where no call failed
  calm_meets : new.faults ≡ read.faults → new.stop ≡ read.stop → device_in r ≡ None → Meets old new r
  calm_meets faults stop none = record {
    kept = λ n is. stop ∙ before.stop ∙ is;
    device = λ n is. let no : None ≡ Some n = sym none ∙ is in cc;
    stopped = λ n going is. let no : None ≡ Some n = sym going ∙ sym before.stop ∙ sym stop ∙ is in cc;
    earlier = λ n is. sym before.stop ∙ stopped n is;
    count = omega (arith, first_count, faults);
    quiet = λ own on. subst (IsCountStill old.faults) (sym faults) first_still;
  }

  served_meets : TellsFaults read new r → Meets old new r
  served_meets (inr hidden) = stop_meets hidden.fault hidden.beside.rose hidden.beside.going hidden.beside.stop (λ n is. let no : None ≡ Some n = sym hidden.none ∙ is in cc)
  served_meets (inl own) = by (device_in r) refl own.told own.stop
    where
      by : (o : Option ℕ) → device_in r ≡ o → IsTold read.faults new.faults o → new.stop ≡ stop_after read.stop o → Meets old new r
      by None none same stop = calm_meets same (stop ∙ stop_stays read.stop) none
      by (Some fault) some rose stop =
          let going = goes_on read.stop (λ at is. let no : None ≡ Some fault = sym (still at is) ∙ some in cc) in
          stop_meets fault rose going (stop ∙ ap (λ (o : Option ℕ). stop_after o (Some fault)) going) (λ n is. some_is (sym is ∙ some))

pub meets : (old new : StoreState) (r : Reply) → TellsRequest old new r → Meets old new r
meets old new r told = by told.ends
  where
    by : ((device_in r ≡ told.failed) × (stopped_in r ≡ None) × (new ≡ told.read))
        ⊎ ((told.failed ≡ None) × TellsFaults told.read new r × ((fault : ℕ) → stopped_in r ≡ Some fault → told.read.stop ≡ Some fault) × ((fault : ℕ) → told.read.stop ≡ Some fault → device_in r ≡ None)) → Meets old new r
    by (inl read) = read_meets old new r told.failed (subst (λ (s : StoreState). HasRead old s told.failed) (sym read.2) told.before) read.0 read.1
    by (inr served) = served_meets old told.read new r (subst (HasRead old told.read) served.0 told.before) served.2 served.3 served.1

-- ---- numbers

none_raised : (s : StoreState) → IsRaisedBy 0 s s
none_raised s = record { geometry = refl; raised = raises_none (0 * most_raised (geometry_of_store s)) (0 * most_raised (geometry_of_store s)) s s refl refl }

pub one_raised : (old new : StoreState) → geometry_of_store new ≡ geometry_of_store old → HasRaised (most_raised (geometry_of_store old)) (most_raised (geometry_of_store old)) old new → IsRaisedBy 1 old new
one_raised old new geometry raised =
    let most = most_raised (geometry_of_store old) in
    let once : most ≡ 1 * most = omega arith in
    record { geometry = geometry; raised = subst (λ (n : ℕ). HasRaised n n old new) once raised }

raised_on : (n m : ℕ) (old mid new : StoreState) → IsRaisedBy n old mid → IsRaisedBy m mid new → IsRaisedBy (n + m) old new
raised_on n m old mid new front back =
    let most = most_raised (geometry_of_store old) in
    let same : most_raised (geometry_of_store mid) ≡ most = ap (λ (g : Geometry). most_raised g) front.geometry in
    let behind : HasRaised (m * most) (m * most) mid new = subst (λ (k : ℕ). HasRaised (m * k) (m * k) mid new) same back.raised in
    let sum : n * most + m * most ≡ (n + m) * most = sym (add-mul n m most) in
    record {
      geometry = back.geometry ∙ front.geometry;
      raised = subst (λ (k : ℕ). HasRaised k k old new) sum (raises_then (n * most) (n * most) (m * most) (m * most) old mid new front.raised behind);
    }

-- ---- what a request is told, and what all behind it

-- that a read failed is told to a request that asks for no commit
read_told : (e : Entry) (b : Bool) (fault : ℕ) → (if b then None else device_in e.reply) ≡ Some fault → (b ≡ false) × (device_in e.reply ≡ Some fault)
read_told e true fault is = absurd cc
read_told e false fault is = (refl, is)

read_of : (e : Entry) (fault : ℕ) → read_in e ≡ Some fault → (asks_commit e.op ≡ false) × (device_in e.reply ≡ Some fault)
read_of e fault is = read_told e (asks_commit e.op) fault is

-- a fault of a read is one of the disk's
has_more : (fault : ℕ) (o p : Option ℕ) (xs ys : List ℕ) → (o ≡ Some fault → p ≡ Some fault) → (Has fault xs → Has fault ys) → Has fault (cons_option o xs) → Has fault (cons_option p ys)
has_more fault None None xs ys first rest has = rest has
has_more fault None (Some n) xs ys first rest has = inr (rest has)
has_more fault (Some m) p xs ys first rest (inl is) = subst (λ (q : Option ℕ). Has fault (cons_option q ys)) (sym (first (ap Some (sym is)))) (inl refl)
has_more fault (Some m) None xs ys first rest (inr has) = rest has
has_more fault (Some m) (Some n) xs ys first rest (inr has) = inr (rest has)

reads_are : (fault : ℕ) (history : List Entry) → Has fault (reads_in history) → Has fault (devices_in history)
reads_are fault [] has = has
reads_are fault (e ∷ history) has = has_more fault (read_in e) (device_in e.reply) (reads_in history) (devices_in history) (λ is. (read_of e fault is).1) (reads_are fault history) has

-- all behind a reply that tells the stop are told it, also where more come behind them
stays_on : (front back : List Entry) → StaysHalted front → AllByRecursion (λ (e : Entry). (fault : ℕ) → TellsStop e fault → AreHalted fault back) front → StaysHalted back → StaysHalted (front ++ back)
stays_on [] back stays behind later = later
stays_on (e ∷ front) back stays behind later = (
  (λ fault tells. all_append (λ (x : Entry). asks_commit x.op ≡ true → is_refused x.reply ≡ false → stopped_in x.reply ≡ Some fault) front back (stays.0 fault tells) (behind.0 fault tells)),
  stays_on front back stays.1 behind.1 later,
)

pub none_caused : AreFaultsCaused []
none_caused = record { asked = tt; halted = tt; rising = tt; turns = tt }

-- ---- its entry

pub none_told : (s : StoreState) → AreFaultsTold s s []
none_told s = record {
  each = λ fault has. absurd has;
  once = no_number;
  caused = none_caused;
  halted = λ fault is. tt;
  apart = λ fault going stop has. has;
  kept = λ fault is. is;
  stopped = λ fault going is. let no : None ≡ Some fault = sym going ∙ is in cc;
  stops = tt;
  count = omega arith;
  quiet = λ none going. inl refl;
  numbers = none_raised s;
}

pub one_told : (old new : StoreState) (entry : Entry) → TellsRequest old new entry.reply → IsCaused old new entry.op entry.reply → IsRaisedBy 1 old new → AreFaultsTold old new (entry ∷ [])
one_told old new entry told caused raised = record {
  each = λ fault has. by fault (m.device fault (has_one fault (device_in entry.reply) has));
  once = one_number (device_in entry.reply);
  caused = record { asked = (caused.asked, tt); halted = ((λ fault tells. tt), tt); rising = one_rising (device_in entry.reply); turns = (caused.turns, tt) };
  halted = λ fault stop. ((λ kind plain. caused.halted kind fault stop plain), tt);
  kept = m.kept;
  stopped = m.stopped;
  stops = (told_stop, tt);
  apart = λ fault going stop has.
      let read = read_of entry fault (has_one fault (read_in entry) has) in
      let no : None ≡ Some fault = sym going ∙ sym (caused.reads fault read.0 read.1) ∙ stop in cc;
  count = m.count;
  quiet = λ none going. m.quiet (no_devices (entry ∷ []) none).0 going;
  numbers = raised;
}
  where
    m : Meets old new entry.reply
    m = meets old new entry.reply told

    told_stop : (fault : ℕ) → TellsStop entry fault → new.stop ≡ Some fault
    told_stop fault (inl earlier) = m.kept fault (m.earlier fault earlier)
    told_stop fault (inr own) = caused.stops fault own.0 own.1

    by : (fault : ℕ) → (IsReadFault old new fault × (new.stop ≡ old.stop)) ⊎ IsStopFault old new fault → IsReadFault old new fault ⊎ IsStopFault old new fault
    by fault (inl read) = inl read.0
    by fault (inr stop) = inr stop

-- ---- one history behind another

module _ (old mid new : StoreState) (front back : List Entry) (first : AreFaultsTold old mid front) (second : AreFaultsTold mid new back) where
  devices : devices_in (front ++ back) ≡ devices_in front ++ devices_in back
  devices = filter_map-append (λ (e : Entry). device_in e.reply) front back

  -- what the front tells
  front_on : (fault : ℕ) → IsReadFault old mid fault ⊎ IsStopFault old mid fault → IsReadFault old new fault ⊎ IsStopFault old new fault
  front_on fault (inl read) = inl (record { risen = read.risen; counted = omega (arith, read.counted, read.below, second.count); below = read.below })
  front_on fault (inr stop) = inr (record { going = stop.going; stop = second.kept fault stop.stop; risen = risen_on old.faults mid.faults new.faults fault stop.risen second.count })

  -- what goes on behind the front went on before it
  begun : mid.stop ≡ None → old.stop ≡ None
  begun going = goes_on old.stop (λ fault is. let no : None ≡ Some fault = sym going ∙ first.kept fault is in cc)

  back_on : (fault : ℕ) → IsReadFault mid new fault ⊎ IsStopFault mid new fault → IsReadFault old new fault ⊎ IsStopFault old new fault
  back_on fault (inl read) = inl (record { risen = omega (arith, first.count, read.risen, read.below); counted = read.counted; below = read.below })
  back_on fault (inr stop) = inr (record { going = begun stop.going; stop = stop.stop; risen = risen_from old.faults mid.faults new.faults fault first.count stop.risen })

  each_on : (fault : ℕ) → Has fault (devices_in front ++ devices_in back) → IsReadFault old new fault ⊎ IsStopFault old new fault
  each_on fault has = by (has_append fault (devices_in front) (devices_in back) has)
    where
      by : Has fault (devices_in front) ⊎ Has fault (devices_in back) → IsReadFault old new fault ⊎ IsStopFault old new fault
      by (inl has) = front_on fault (first.each fault has)
      by (inr has) = back_on fault (second.each fault has)

  -- the back's numbers are above the front's
  above : (m n : ℕ) → IsReadFault old mid m ⊎ IsStopFault old mid m → IsReadFault mid new n ⊎ IsStopFault mid new n → m < n
  above m n (inl one) (inl other) = omega (arith, one.counted, other.risen)
  above m n (inr one) (inl other) = omega (arith, one.risen.counted, other.risen)
  above m n (inr one) (inr other) = (let no : None ≡ Some m = sym other.going ∙ one.stop in cc)
  above m n (inl one) (inr other) = by other.risen.risen
    where
      by : (mid.faults < n) ⊎ (n ≡ 2 ^ 64 - 1) → m < n
      by (inl less) = omega (arith, one.counted, less)
      by (inr end) = omega (arith, one.below, end)

  apart : (m n : ℕ) → IsReadFault old mid m ⊎ IsStopFault old mid m → IsReadFault mid new n ⊎ IsStopFault mid new n → m ≢ n
  apart m n one other = λ same. let less = above m n one other in omega (arith, less, same)

  -- ---- the excuses have their cause

  caused_on : AreFaultsCaused (front ++ back)
  caused_on = record {
    asked = all_append (λ (e : Entry). (fault : ℕ) → stopped_in e.reply ≡ Some fault → asks_commit e.op ≡ true) front back first.caused.asked second.caused.asked;
    halted = stays_on front back first.caused.halted
        (all_map (λ (e : Entry). (fault : ℕ) → TellsStop e fault → mid.stop ≡ Some fault) (λ (e : Entry). (fault : ℕ) → TellsStop e fault → AreHalted fault back)
        (λ e told fault tells. second.halted fault (told fault tells)) front first.stops)
        second.caused.halted;
    rising = subst AreRising (sym devices) (rising_on (devices_in front) (devices_in back) first.caused.rising second.caused.rising (λ m n one other. above m n (first.each m one) (second.each n other)));
    turns = all_append (λ (e : Entry). (fault : ℕ) → device_in e.reply ≡ Some fault → may_turn e.op ≡ true) front back first.caused.turns second.caused.turns;
  }

  -- a read's fault isn't the one at which the store stops behind it, or stopped before it
  front_apart : (fault : ℕ) → old.stop ≡ None → new.stop ≡ Some fault → Has fault (reads_in front) → ⊥
  front_apart fault going stop has = by mid.stop refl (first.each fault (reads_are fault front has))
    where
      behind : IsReadFault old mid fault → (mid.faults < fault) ⊎ (fault ≡ 2 ^ 64 - 1) → ⊥
      behind read (inl less) = omega (arith, read.counted, less)
      behind read (inr end) = omega (arith, read.below, end)

      by : (o : Option ℕ) → mid.stop ≡ o → IsReadFault old mid fault ⊎ IsStopFault old mid fault → ⊥
      by (Some n) some is = first.apart fault going (some ∙ sym (second.kept n some) ∙ stop) has
      by None none (inr stopped) = (let no : None ≡ Some fault = sym none ∙ stopped.stop in cc)
      by None none (inl read) = behind read (second.stopped fault none stop).risen

  back_apart : (fault : ℕ) → old.stop ≡ None → new.stop ≡ Some fault → Has fault (reads_in back) → ⊥
  back_apart fault going stop has = by mid.stop refl (second.each fault (reads_are fault back has))
    where
      by : (o : Option ℕ) → mid.stop ≡ o → IsReadFault mid new fault ⊎ IsStopFault mid new fault → ⊥
      by None none is = second.apart fault none stop has
      by (Some n) some (inr stopped) = (let no : None ≡ Some n = sym stopped.going ∙ some in cc)
      by (Some n) some (inl read) =
          let same : mid.stop ≡ Some fault = some ∙ sym (second.kept n some) ∙ stop in
          let risen = first.stopped fault going same in
          omega (arith, risen.counted, read.risen)

  apart_on : (fault : ℕ) → old.stop ≡ None → new.stop ≡ Some fault → Has fault (reads_in (front ++ back)) → ⊥
  apart_on fault going stop has = by (has_append fault (reads_in front) (reads_in back) (subst (Has fault) (filter_map-append read_in front back) has))
    where
      by : Has fault (reads_in front) ⊎ Has fault (reads_in back) → ⊥
      by (inl has) = front_apart fault going stop has
      by (inr has) = back_apart fault going stop has

  stopped_on : (fault : ℕ) → old.stop ≡ None → new.stop ≡ Some fault → (o : Option ℕ) → mid.stop ≡ o → HasRisen old.faults new.faults fault
  stopped_on fault going stop None none = risen_from old.faults mid.faults new.faults fault first.count (second.stopped fault none stop)
  stopped_on fault going stop (Some n) some =
      let same : n ≡ fault = some_is (sym (second.kept n some) ∙ stop) in
      subst (HasRisen old.faults new.faults) same (risen_on old.faults mid.faults new.faults n (first.stopped n going some) second.count)

  quiet_on : devices_in front ++ devices_in back ≡ [] → new.stop ≡ None → IsCountStill old.faults new.faults
  quiet_on none going =
      let nothing = nothing_on (devices_in front) (devices_in back) none in
      let on = goes_on mid.stop (λ fault is. let no : None ≡ Some fault = sym going ∙ second.kept fault is in cc) in
      still_on old.faults mid.faults new.faults (first.quiet nothing.0 on) (second.quiet nothing.1 going)

  pub told_on : AreFaultsTold old new (front ++ back)
  told_on = record {
    each = λ fault has. each_on fault (subst (Has fault) devices has);
    once = subst (IsDistinct nat_eq) (sym devices) (distinct_on (devices_in front) (devices_in back) first.once second.once (λ m n one other. apart m n (first.each m one) (second.each n other)));
    caused = caused_on;
    halted = λ fault stop. all_append (λ (e : Entry). asks_commit e.op ≡ true → is_refused e.reply ≡ false → stopped_in e.reply ≡ Some fault) front back (first.halted fault stop) (second.halted fault (first.kept fault stop));
    apart = apart_on;
    kept = λ fault is. second.kept fault (first.kept fault is);
    stopped = λ fault going stop. stopped_on fault going stop mid.stop refl;
    stops = all_append (λ (e : Entry). (fault : ℕ) → TellsStop e fault → new.stop ≡ Some fault) front back
        (all_map (λ (e : Entry). (fault : ℕ) → TellsStop e fault → mid.stop ≡ Some fault) (λ (e : Entry). (fault : ℕ) → TellsStop e fault → new.stop ≡ Some fault)
        (λ e told fault is. second.kept fault (told fault is)) front first.stops)
        second.stops;
    count = omega (arith, first.count, second.count);
    quiet = λ none going. quiet_on (sym devices ∙ none) going;
    numbers = subst (λ (n : ℕ). IsRaisedBy n old new) (sym (length-append front back)) (raised_on (length front) (length back) old mid new first.numbers second.numbers);
  }

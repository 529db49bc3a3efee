-- What is told at a session's end.
use Rattle.std.proofs.Common.{◌≡◌, ℕ, ◌+◌, ◌-◌, ◌^◌, ◌<◌, ◌≤◌, min, ◌⊎◌, List, [], Option, Some, None, Result, Ok, Err, IsOk, ap, sym, refl, subst, ◌∙◌, Bool, true, false, nat_eq, inl, inr, arith}
use Rattle.std.specs.Prelude.{IfOk, OnOk, ◌↔◌, nat_le}
use Rattle.std.specs.List.{IsDistinct}
use Rattle.std.proofs.lemmas.Bool.Decides.{nat_tests}
use Rattle.ufs_base.specs.Wanting.{wanting}
use Rattle.ufs_base.specs.declared.lack.Lack.{Lack}
use Rattle.ufs_base.specs.declared.memory.Memory.{Memory}
use Rattle.ufs_base.specs.Faults.{RoseTo}
use Rattle.ufs_client.specs.declared.played.EndFault.{EndFault}
use Rattle.ufs_client.specs.declared.played.EndFault.TheVariants as session
use Rattle.ufs_brink.specs.Closes.{closing_fault}
use Rattle.ufs_brink.specs.declared.closing.CloseFault.{CloseFault}
use Rattle.ufs_brink.specs.declared.closing.CloseFault.TheVariants as cause
use Rattle.ufs_model.specs.PosixTree.{PosixTree}
use Rattle.ufs_model.specs.declared.data.Entry.{Entry}
use Rattle.ufs_model.specs.declared.data.Op.{Op}
use Rattle.ufs_model.proofs.Facts.Histories.{order_none}
use Rattle.ufs_engine.specs.Plays.{AreFaultsOf, IsClosingFault, IsEndFault, IsStopOf, IsUnstopped, served_end}
use Rattle.ufs_engine.specs.declared.playing.PlayFault.{PlayFault}
use Rattle.ufs_engine.specs.declared.playing.PlayFault.TheVariants as ending
use Rattle.ufs_told.specs.Sizes.{total_size}
use Rattle.ufs_engine.specs.Served.{IsPlayedFrom}
use Rattle.ufs_told.proofs.ToldLemmas.{none_caused}
use Rattle.ufs_told.specs.Told.{AreFaultsTold, AreToldStop, HasRisen, IsCountStill, IsReadFault, IsStopFault}
use Rattle.ufs_start.specs.declared.fault.StartFault.{StartFault}
use Rattle.ufs_store.specs.Refusals.{IsTold}
use Rattle.ufs_store.specs.State.{StoreState}

-- ---- what is played

-- where nothing is served
pub none_played : (start : PosixTree) (clients : List (List Op)) → IsPlayedFrom start clients [] (Err (session.Memory wanting)) []
none_played start clients = record {
  merged = record { rising = tt; each = λ client. refl };
  each = λ ok. cc;
  legal = record { entries = tt; faults = tt };
  servers = tt;
  ordered = order_none clients;
  complete = λ ok. cc;
}

pub not_served : {W : Lack → Type 0} (end : PlayFault) (fault : StartFault) → (end ≡ ending.Image fault) ⊎ ((w : Lack) × ((end ≡ ending.Lack w) × W w)) → served_end (Err end) ≡ Err (session.Memory wanting)
not_served end fault (inl is) = ap (λ (e : PlayFault). served_end (Err e)) is
not_served end fault (inr is) = ap (λ (e : PlayFault). served_end (Err e)) is.1.0

-- ---- faults

-- where each stop is ruled out
goes_on : (stop : Option ℕ) → ((fault : ℕ) → stop ≡ Some fault → ⊥) → stop ≡ None
goes_on None never = refl
goes_on (Some fault) never = absurd (never fault refl)

pub both_ok : {T : Type 0} {E F : Type 0} {P Q : Type 0} (ended : Result T E) (closed : Result (Unit {0}) F) → (P → Q) → OnOk ended (IsOk closed) → OnOk closed P → OnOk ended Q
both_ok (Ok x) (Ok y) leads done on = leads on
both_ok (Ok x) (Err fault) leads done on = let no : false ≡ true = done in cc
both_ok (Err fault) closed leads done on = tt

-- ---- how large the files are

-- who ended badly didn't end well
pub never_ended : (fault : EndFault) → ◌≡◌ {A = Result (Unit {0}) EndFault} (Err fault) (Ok tt) → ⊥
never_ended fault e = cc

-- the number that is told is the one that was found
pub bytes_told : (ended : Result (Unit {0}) EndFault) (total : Result ℕ Memory) (t : PosixTree) → OnOk ended (IsOk total) → IfOk total (λ n. n ≡ total_size t) → (bytes : ℕ) → IfOk total (λ n. bytes ≡ n)
    → ended ≡ Ok tt → bytes ≡ total_size t
bytes_told (Ok x) (Ok n) t found is bytes told ok = told ∙ is
bytes_told (Ok x) (Err memory) t found is bytes told ok = let no : false ≡ true = found in cc
bytes_told (Err fault) total t found is bytes told ok = absurd (never_ended fault ok)

pub none_twice : IsDistinct nat_eq []
unfolding IsDistinct
none_twice = tt

-- a call that raises a count which fell nowhere raises it past the first one, or to its end
pub rose_past : (before count now fault : ℕ) → min before (2 ^ 64 - 1) ≤ count → RoseTo count now fault → HasRisen before now fault
rose_past before count now fault low rose = record { risen = by (nat_le (2 ^ 64 - 1) (count + 1)) refl; counted = omega (arith, number); within = omega (arith, number, is) }
  where
    number : fault ≡ now
    number = rose.number

    is : now ≡ min (count + 1) (2 ^ 64 - 1)
    is = rose.rose

    by : (b : Bool) → nat_le (2 ^ 64 - 1) (count + 1) ≡ b → (before < fault) ⊎ (fault ≡ 2 ^ 64 - 1)
    by true e = let high : 2 ^ 64 - 1 ≤ count + 1 = grind (arith, nat_tests, e) in inr (omega (arith, high, number, is))
    by false e = let under : count + 1 < 2 ^ 64 - 1 = grind (arith, nat_tests, e) in inl (omega (arith, low, under, number, is))

-- a session over a store that goes on as it begins, and how its closing ended
module _ (old new : StoreState) (going : old.stop ≡ None) (history : List Entry) (told : AreFaultsTold old new history) (now : ℕ) (closed : Result (Unit {0}) CloseFault)
    (told_now : IsTold new.faults now (closing_fault closed)) (stopped : (fault : ℕ) → (closed ≡ Err (cause.Stopped fault)) ↔ (new.stop ≡ Some fault)) where
  told_as : (r : Result (Unit {0}) CloseFault) → closed ≡ r → IsTold new.faults now (closing_fault r)
  told_as r is = subst (λ (c : Result (Unit {0}) CloseFault). IsTold new.faults now (closing_fault c)) is told_now

  -- whoever closes otherwise has a store that goes on
  going_on : ((fault : ℕ) → closed ≡ Err (cause.Stopped fault) → ⊥) → new.stop ≡ None
  going_on other = goes_on new.stop (λ fault some. other fault ((stopped fault).1 some))

  going_ok : closed ≡ Ok tt → new.stop ≡ None
  going_ok ok = going_on (λ fault is. let no : Ok tt ≡ Err (cause.Stopped fault) = sym ok ∙ is in cc)

  -- a store that has stopped meets no call of the closing
  stop_risen : (fault : ℕ) → new.stop ≡ Some fault → HasRisen old.faults now fault
  stop_risen fault stop = subst (λ (n : ℕ). HasRisen old.faults n fault) (sym (told_as (Err (cause.Stopped fault)) ((stopped fault).1 stop))) (told.stopped fault going stop)

  -- the closing raises the count by one at most
  read_risen : (fault : ℕ) → IsReadFault old new fault → HasRisen old.faults now fault
  read_risen fault read = record { risen = inl read.risen; counted = by (closing_fault closed) told_now; within = (let below = read.below in omega (arith, below)) }
    where
      by : (o : Option ℕ) → IsTold new.faults now o → fault ≤ now
      by None same = let counted = read.counted in let is : now ≡ new.faults = same in omega (arith, counted, is)
      by (Some other) rose = let counted = read.counted in let below = read.below in let is : now ≡ min (new.faults + 1) (2 ^ 64 - 1) = rose.rose in omega (arith, counted, below, is)

  pub faults_of : AreFaultsOf old.faults now history
  faults_of = record {
    each = λ fault has. elim (told.each fault has) [ inl read ↦ read_risen fault read | inr stop ↦ stop_risen fault stop.stop ];
    once = told.once;
    caused = told.caused;
    stop = new.stop;
    stops = told.stops;
    of_session = stop_risen;
    apart = λ fault at. told.apart fault going at;
  }

  stops_none : new.stop ≡ None → AreToldStop None history
  stops_none none = subst (λ (o : Option ℕ). AreToldStop o history) none told.stops

  is_ok : (r : Result (Unit {0}) CloseFault) → IsOk r → r ≡ Ok tt
  is_ok (Ok x) done = refl
  is_ok (Err fault) done = let no : false ≡ true = done in cc

  unstopped : closed ≡ Ok tt → IsUnstopped old.faults now history
  unstopped ok = record {
    stops = stops_none (going_ok ok);
    quiet = λ none. subst (IsCountStill old.faults) (sym (told_as (Ok tt) ok)) (told.quiet none (going_ok ok));
  }

  -- a fault of the closing
  module _ (fault : ℕ) (is : closed ≡ Err (cause.Device fault)) where
    rose : RoseTo new.faults now fault
    rose = told_as (Err (cause.Device fault)) is

    going_there : new.stop ≡ None
    going_there = going_on (λ other stop. let no : Err (cause.Device fault) ≡ Err (cause.Stopped other) = sym is ∙ stop in cc)

    -- a fault that a reply tells came before it
    none_untold : IsReadFault old new fault ⊎ IsStopFault old new fault → ⊥
    none_untold (inl read) =
        let counted = read.counted in
        let below = read.below in
        let up : now ≡ min (new.faults + 1) (2 ^ 64 - 1) = rose.rose in
        let number = rose.number in
        omega (arith, counted, below, up, number)
    none_untold (inr stop) = let no : None ≡ Some fault = sym going_there ∙ stop.stop in cc

    first : IsCountStill old.faults new.faults → RoseTo old.faults now fault ⊎ (fault ≡ 2 ^ 64 - 1)
    first (inl same) = inl (subst (λ (n : ℕ). RoseTo n now fault) same rose)
    first (inr end) =
        let up : now ≡ min (new.faults + 1) (2 ^ 64 - 1) = rose.rose in
        let number = rose.number in
        inr (omega (arith, end, up, number))

    closing_of : IsClosingFault old.faults now history fault
    closing_of = record {
      stops = stops_none going_there;
      risen = rose_past old.faults new.faults now fault told.count rose;
      last = sym rose.number;
      untold = λ has. none_untold (told.each fault has);
      alone = λ none. first (told.quiet none going_there);
    }

  stop_of : (fault : ℕ) → closed ≡ Err (cause.Stopped fault) → IsStopOf old.faults now history fault
  stop_of fault is = let stop = (stopped fault).0 is in record {
    stops = subst (λ (o : Option ℕ). AreToldStop o history) stop told.stops;
    risen = stop_risen fault stop;
    apart = told.apart fault going stop;
  }

  pub end_fault : (ended : Result (Unit {0}) PlayFault) → OnOk ended (IsOk closed) → ((fault : ℕ) → ended ≡ Err (ending.Device fault) → closed ≡ Err (cause.Device fault))
      → ((fault : ℕ) → ended ≡ Err (ending.Stopped fault) → closed ≡ Err (cause.Stopped fault)) → IsEndFault old.faults now history ended
  end_fault (Ok x) done device at = unstopped (is_ok closed done)
  end_fault (Err (ending.Device fault)) done device at = closing_of fault (device fault refl)
  end_fault (Err (ending.Stopped fault)) done device at = stop_of fault (at fault refl)
  end_fault (Err (ending.Image fault)) done device at = tt
  end_fault (Err (ending.Lack _)) done device at = tt

-- where nobody is told anything
pub no_faults : (before now : ℕ) → AreFaultsOf before now []
no_faults before now = record {
  each = λ fault has. absurd has;
  once = none_twice;
  caused = none_caused;
  stop = None;
  stops = tt;
  of_session = λ fault is. absurd cc;
  apart = λ fault is. absurd cc;
}

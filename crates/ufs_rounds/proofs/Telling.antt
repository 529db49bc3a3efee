-- What a turn of a session tells of the store's faults, by what its server says of the store's cell.
use Rattle.std.proofs.Common.{◌≡◌, ◌∙◌, ◌+◌, ◌-◌, ◌^◌, ◌<◌, ◌⊎◌, ℕ, inl, inr, Bool, true, false, cond, leb, List, [], ◌∷◌, Option, Some, None, ap, refl, subst, sym, arith}
use Rattle.std.proofs.lemmas.Bool.{leb-false, leb-true}
use Rattle.ufs_base.specs.Faults.{RoseTo}
use Rattle.ufs_model.specs.declared.data.Excuse.TheVariants as excuse
use Rattle.ufs_model.specs.declared.data.Op.{Op}
use Rattle.ufs_model.specs.declared.data.Reply.{Reply}
use Rattle.ufs_model.specs.declared.data.Reply.TheVariants as reply
use Rattle.ufs_crash_laws.specs.Changes.{asks_commit}
use Rattle.ufs_hand_laws.specs.Parts.{Stretch}
use Rattle.ufs_store.specs.Numbers.{HasRaised}
use Rattle.ufs_store.specs.Refusals.{IsTold, stop_after}
use Rattle.ufs_store.specs.State.{StoreState}
use Rattle.ufs_joint.specs.Cells.{StoreCell, View}
use Rattle.ufs_joint.specs.Disks.{cell_of}
use Rattle.ufs_primary.specs.OfTurns.{RunIn, Runs, stop_in}
use Rattle.ufs_primary.specs.OfTurns.{fault_told}
use Rattle.ufs_primary.specs.OfHeld.{ExcusesByStop, RestsByReply, StopsByReply, TellsItsStop, fault_by}
use Rattle.ufs_told.specs.Replies.{device_in, may_turn, stopped_in}
use Rattle.ufs_told.specs.Told.{IsCaused, TellsRequest}
use Rattle.ufs_told.proofs.Beside.{stop_stays}
use Rattle.ufs_told.proofs.CausedLemmas.{commits_turn}
use Rattle.ufs_told.proofs.ToldLemmas.{served_told}

-- ---- what an answer tells

by_device : (r : Reply) → fault_by r ≡ device_in r
by_device (reply.Excused (excuse.Device n)) = refl
by_device (reply.Excused excuse.Memory) = refl
by_device (reply.Excused (excuse.Stopped n)) = refl
by_device (reply.Excused (excuse.Blocks need had)) = refl
by_device (reply.Excused excuse.Inodes) = refl
by_device (reply.Excused (excuse.Extents need)) = refl
by_device reply.Done = refl
by_device (reply.Fd n) = refl
by_device (reply.Count n) = refl
by_device (reply.At n) = refl
by_device (reply.Got bytes) = refl
by_device (reply.IsFile n) = refl
by_device (reply.IsDir n) = refl
by_device (reply.Names names) = refl
by_device (reply.Refused x) = refl

pub said_stop : (r : Reply) (n : ℕ) → stopped_in r ≡ Some n → r ≡ reply.Excused (excuse.Stopped n)
said_stop (reply.Excused (excuse.Stopped m)) n is = ap (λ (k : ℕ). reply.Excused (excuse.Stopped k)) (some_is is)
  where
    some_is : {a b : ℕ} → Some a ≡ Some b → a ≡ b
    some_is e = cc
said_stop (reply.Excused (excuse.Device m)) n is = absurd cc
said_stop (reply.Excused excuse.Memory) n is = absurd cc
said_stop (reply.Excused (excuse.Blocks need had)) n is = absurd cc
said_stop (reply.Excused excuse.Inodes) n is = absurd cc
said_stop (reply.Excused (excuse.Extents need)) n is = absurd cc
said_stop reply.Done n is = absurd cc
said_stop (reply.Fd m) n is = absurd cc
said_stop (reply.Count m) n is = absurd cc
said_stop (reply.At m) n is = absurd cc
said_stop (reply.Got bytes) n is = absurd cc
said_stop (reply.IsFile m) n is = absurd cc
said_stop (reply.IsDir m) n is = absurd cc
said_stop (reply.Names names) n is = absurd cc
said_stop (reply.Refused x) n is = absurd cc

-- ---- a count

-- a fault that is told is the call's own
told_low : (before now : ℕ) (o : Option ℕ) (f : ℕ) → fault_told o ≡ Some f → IsTold before now o → (f ≡ before + 1) × (now ≡ f) × (f < 2 ^ 64 - 1)
told_low before now None f is told = (let clash : None ≡ Some f = is in absurd cc)
told_low before now (Some n) f is told = by (leb (2 ^ 64 - 1) n) refl is
  where
    by : (b : Bool) → leb (2 ^ 64 - 1) n ≡ b → cond b None (Some n) ≡ Some f → (f ≡ before + 1) × (now ≡ f) × (f < 2 ^ 64 - 1)
    by true e is = (let clash : None ≡ Some f = is in absurd cc)
    by false e is =
        let same : n ≡ f = cc in
        let low = leb-false (2 ^ 64 - 1) n e in
        (omega (arith, same, low, told.rose, told.number), omega (arith, same, told.number), omega (arith, same, low))

-- one that isn't told is the last number
told_last : (before now : ℕ) (o : Option ℕ) → fault_told o ≡ None → IsTold before now o → (now ≡ before) ⊎ RoseTo before now (2 ^ 64 - 1)
told_last before now None is told = inl told
told_last before now (Some n) is told = by (leb (2 ^ 64 - 1) n) refl is
  where
    by : (b : Bool) → leb (2 ^ 64 - 1) n ≡ b → cond b None (Some n) ≡ None → (now ≡ before) ⊎ RoseTo before now (2 ^ 64 - 1)
    by true e is = let high = leb-true (2 ^ 64 - 1) n e in inr (record { rose = told.rose; number = omega (arith, high, told.number, told.rose) })
    by false e is = (let clash : Some n ≡ None = is in absurd cc)

-- ---- requests that commit nothing, and those that do

module _ (s t : StoreState) (r : Reply) (fault : Option ℕ) (same : fault_told fault ≡ fault_by r) (count : IsTold s.faults t.faults fault) where
  told : fault_told fault ≡ device_in r
  told = same ∙ by_device r

  pub told_rests : t.stop ≡ s.stop → stopped_in r ≡ None → TellsRequest s t r
  told_rests stop none = record {
    read = t;
    failed = device_in r;
    before = record { stop = stop; told = λ f is. told_low s.faults t.faults fault f (told ∙ is) count; untold = λ is. told_last s.faults t.faults fault (told ∙ is) count };
    ends = inl (refl, none, refl);
  }

  module _ (stop : t.stop ≡ stop_after s.stop fault) (its : TellsItsStop s.stop r) where
    only : (n : ℕ) → stopped_in r ≡ Some n → s.stop ≡ Some n
    only n is = its.only n (said_stop r n is)

    no_device : (n : ℕ) → s.stop ≡ Some n → device_in r ≡ None
    no_device n is = ap device_in (its.halted n is)

    pub told_stops : TellsRequest s t r
    told_stops = by s.stop refl fault refl
      where
        by : (o : Option ℕ) → s.stop ≡ o → (q : Option ℕ) → fault ≡ q → TellsRequest s t r
        by (Some n) is q e =
            let still : t.stop ≡ s.stop = stop ∙ ap (λ (p : Option ℕ). stop_after p fault) is ∙ sym is in
            let none = no_device n is in
            record {
              read = t;
              failed = None;
              before = record { stop = still; told = λ f no. (let clash : None ≡ Some f = no in absurd cc); untold = λ no. told_last s.faults t.faults fault (told ∙ none) count };
              ends = inr (
                refl,
                inl (record { told = subst (IsTold t.faults t.faults) (sym none) refl; stop = sym (stop_stays t.stop) ∙ ap (stop_after t.stop) (sym none) }),
                (λ m said. still ∙ only m said),
                (λ m stopped. none),
              );
            }
        by None going None e =
            let own : device_in r ≡ None = sym told ∙ ap fault_told e in
            served_told s t r (inl (record { told = subst (IsTold s.faults t.faults) (e ∙ sym own) count; stop = stop ∙ ap (stop_after s.stop) (e ∙ sym own) })) only no_device
        by None going (Some n) e = by_last (leb (2 ^ 64 - 1) n) refl
          where
            by_last : (b : Bool) → leb (2 ^ 64 - 1) n ≡ b → TellsRequest s t r
            by_last true high =
                let none : device_in r ≡ None = sym told ∙ ap fault_told e ∙ ap (λ (b : Bool). cond b None (Some n)) high in
                served_told s t r (inr (record { none = none; fault = n; beside = record { going = going; rose = subst (IsTold s.faults t.faults) e count; stop = stop ∙ (λ i. stop_after (going i) (e i)) } })) only no_device
            by_last false low =
                let own : device_in r ≡ Some n = sym told ∙ ap fault_told e ∙ ap (λ (b : Bool). cond b None (Some n)) low in
                served_told s t r (inl (record { told = subst (IsTold s.faults t.faults) (e ∙ sym own) count; stop = stop ∙ ap (stop_after s.stop) (e ∙ sym own) })) only no_device

    -- the store stopped at the fault that it tells
    own_stop : (n : ℕ) → device_in r ≡ Some n → t.stop ≡ Some n
    own_stop n is = by s.stop refl fault refl
      where
        by : (o : Option ℕ) → s.stop ≡ o → (q : Option ℕ) → fault ≡ q → t.stop ≡ Some n
        by (Some m) stopped q e = (let clash : None ≡ Some n = sym (no_device m stopped) ∙ is in absurd cc)
        by None going None e = (let clash : None ≡ Some n = sym (ap fault_told e) ∙ told ∙ is in absurd cc)
        by None going (Some m) e = stop ∙ (λ i. stop_after (going i) (e i)) ∙ own (leb (2 ^ 64 - 1) m) refl
          where
            said : fault_told (Some m) ≡ Some n
            said = sym (ap fault_told e) ∙ told ∙ is

            own : (b : Bool) → leb (2 ^ 64 - 1) m ≡ b → Some m ≡ Some n
            own true high = (let clash : None ≡ Some n = sym (ap (λ (b : Bool). cond b None (Some m)) high) ∙ said in absurd cc)
            own false low = sym (ap (λ (b : Bool). cond b None (Some m)) low) ∙ said

    pub stops_caused : (request : Op) → asks_commit request ≡ true → IsCaused s t request r
    stops_caused request commits = record {
      asked = λ n is. commits;
      halted = λ kind n is plain. ap stopped_in (its.halted n is);
      turns = λ n is. commits_turn request commits;
      stops = λ n kind is. own_stop n is;
      reads = λ n other is. (let clash : true ≡ false = sym commits ∙ other in absurd cc);
    }

pub rests_caused : (s t : StoreState) (r : Reply) (request : Op) → asks_commit request ≡ false → t.stop ≡ s.stop → stopped_in r ≡ None → ((n : ℕ) → device_in r ≡ Some n → may_turn request ≡ true) → IsCaused s t request r
rests_caused s t r request reads stop none turns = record {
  asked = λ n is. (let clash : None ≡ Some n = sym none ∙ is in absurd cc);
  halted = λ kind n is plain. (let clash : true ≡ false = sym kind ∙ reads in absurd cc);
  turns = turns;
  stops = λ n kind is. (let clash : true ≡ false = sym kind ∙ reads in absurd cc);
  reads = λ n other is. stop;
}

-- ---- over the cells that a way to the store tells

module _ (v w : View) (a b : ℕ) (p q : List Stretch) (s t : StoreState) (had : v.store ≡ (tt, cell_of a p s) ∷ []) (has : w.store ≡ (tt, cell_of b q t) ∷ []) where
  stop_there : (fault : Option ℕ) → stop_in w.store ≡ stop_after (stop_in v.store) fault → t.stop ≡ stop_after s.stop fault
  stop_there fault is = subst (λ (x : List (Unit {0} × StoreCell) × List (Unit {0} × StoreCell)). stop_in x.1 ≡ stop_after (stop_in x.0) fault) (λ i. (had i, has i)) is

  its_stop : (r : Reply) → ExcusesByStop (Some v) r → TellsItsStop s.stop r
  its_stop r is = subst (λ (x : List (Unit {0} × StoreCell)). TellsItsStop (stop_in x) r) had is

  pub raised_there : (fault : Option ℕ) (epochs commits : ℕ) → Runs (Some v) (Some w) fault epochs commits → HasRaised epochs commits s t
  raised_there fault epochs commits ran =
      let at = subst (λ (x : List (Unit {0} × StoreCell) × List (Unit {0} × StoreCell)). RunIn fault epochs commits x.0 x.1) (λ i. (had i, has i)) ran in
      record { epoch = at.epoch; epoch_most = at.epoch_most; number = at.number; number_most = at.number_most }

  count_there : (fault : Option ℕ) (epochs commits : ℕ) → Runs (Some v) (Some w) fault epochs commits → IsTold s.faults t.faults fault
  count_there fault epochs commits ran = (subst (λ (x : List (Unit {0} × StoreCell) × List (Unit {0} × StoreCell)). RunIn fault epochs commits x.0 x.1) (λ i. (had i, has i)) ran).count

  -- a request that commits nothing
  module _ (r : Reply) (rests : RestsByReply (Some v) (Some w) r) (none : stopped_in r ≡ None) where
    stop_rests : t.stop ≡ s.stop
    stop_rests = stop_there None rests.2.0 ∙ stop_stays s.stop

    pub by_rests : TellsRequest s t r
    by_rests = told_rests s t r rests.0 rests.1 (count_there rests.0 0 0 rests.2.1) stop_rests none

    pub by_rests_caused : (request : Op) → asks_commit request ≡ false → ((n : ℕ) → device_in r ≡ Some n → may_turn request ≡ true) → IsCaused s t request r
    by_rests_caused request reads turns = rests_caused s t r request reads stop_rests none turns

    pub by_rests_raised : HasRaised 0 0 s t
    by_rests_raised = raised_there rests.0 0 0 rests.2.1

  -- one that commits
  module _ (epochs commits : ℕ) (r : Reply) (stops : StopsByReply (Some v) (Some w) epochs commits r) (halted : ExcusesByStop (Some v) r) where
    pub by_stops : TellsRequest s t r
    by_stops = told_stops s t r stops.0 stops.1 (count_there stops.0 epochs commits stops.3) (stop_there stops.0 stops.2) (its_stop r halted)

    pub by_stops_caused : (request : Op) → asks_commit request ≡ true → IsCaused s t request r
    by_stops_caused request kind = stops_caused s t r stops.0 stops.1 (count_there stops.0 epochs commits stops.3) (stop_there stops.0 stops.2) (its_stop r halted) request kind

    pub by_stops_raised : HasRaised epochs commits s t
    by_stops_raised = raised_there stops.0 epochs commits stops.3

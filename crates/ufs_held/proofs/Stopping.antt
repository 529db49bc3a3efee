-- A stop of the store, through the turns of a request and its answer.
use Rattle.std.proofs.Common.{◌≡◌, ◌+◌, ℕ, List, [], ◌∷◌, true, false, is_some, Option, Some, None, Result, Ok, Err, subst, ap, sym, refl, ◌∙◌}
use Rattle.ufs_bitmap.specs.Blocks.{BlockSet}
use Rattle.ufs_file.specs.Content.{Content, IsContentOf}
use Rattle.ufs_file.specs.Hand.{FileState}
use Rattle.ufs_joint.specs.Cells.{View}
use Rattle.ufs_model.specs.declared.data.Desc.{Desc}
use Rattle.ufs_model.specs.declared.data.Excuse.{Excuse}
use Rattle.ufs_model.specs.declared.data.Excuse.TheVariants as excuse
use Rattle.ufs_model.specs.declared.data.Op.{Op}
use Rattle.ufs_model.specs.declared.data.Reply.{Reply}
use Rattle.ufs_model.specs.declared.data.Reply.TheVariants as reply
use Rattle.ufs_store.specs.Refusals.{fault_in, stop_after}
use Rattle.ufs_store.specs.declared.fault.StoreFault.{StoreFault}
use Rattle.ufs_store.specs.declared.fault.StoreFault.TheVariants as refusal
use Rattle.ufs_turns.specs.Lent.{Runs, StopsByFault, TellsStop, TellsWhere, stop_in}
use Rattle.ufs_turns.specs.Told.{fault_told, told_list}
use Rattle.ufs_turns.proofs.Runs.{runs_still, runs_then, runs_twice}
use Rattle.ufs_held.specs.Asking.{faults_of}
use Rattle.ufs_held.proofs.Excusing.{not_done, one_excuse}
use Rattle.ufs_held.specs.Serving.{Applied, IsServeCause, Unread}
use Rattle.ufs_held.specs.Stopping.{ExcusesByStop, Rests, RestsByReply, StopsByReply, fault_by}

-- ---- one turn

abbrev err_or : {A : Type 0} → StoreFault → Result A StoreFault → StoreFault
err_or e (Ok x) = e
err_or e (Err f) = f

after_none : (stop told : Option ℕ) → stop_after (stop_after stop None) told ≡ stop_after stop told
after_none None told = refl
after_none (Some n) told = refl

stays : (stop : Option ℕ) → stop ≡ stop_after stop None
stays None = refl
stays (Some n) = refl

-- A turn that passed wasn't one of a store that had stopped, and no stop is told where it is acknowledged.
pub passed_going : (A : Type 0) (tells : Option View) (q : Result A StoreFault) (x : A) (r : Reply) → q ≡ Ok x → TellsStop tells q → r ≡ reply.Done → ExcusesByStop tells r
passed_going A None q x r is halted done = tt
passed_going A (Some v) q x r is halted done = record {
  halted = λ fault stop. absurd (let clash : Ok x ≡ Err (refusal.Stopped fault) = sym is ∙ halted fault stop in cc);
  only = λ fault said. absurd (not_done r (excuse.Stopped fault) said done);
}

-- It left the store going, and what is told then is told of before it, too.
pub passed_then : (A : Type 0) (had mid : Option View) (q : Result A StoreFault) (x : A) (r : Reply) → q ≡ Ok x → TellsStop had q → is_some mid ≡ is_some had → StopsByFault had mid None → ExcusesByStop mid r → ExcusesByStop had r
passed_then A None mid q x r is halted telling stops then = tt
passed_then A (Some v) None q x r is halted telling stops then = (let clash : false ≡ true = telling in absurd cc)
passed_then A (Some v) (Some u) q x r is halted telling stops then = record {
  halted = λ fault stop. absurd (let clash : Ok x ≡ Err (refusal.Stopped fault) = sym is ∙ halted fault stop in cc);
  only = λ fault said. stays (stop_in v.store) ∙ sym stops ∙ then.only fault said;
}

pub passed_so : (A B : Type 0) (tells : Option View) (q : Result A StoreFault) (x : A) (t : Result B StoreFault) → q ≡ Ok x → TellsStop tells q → TellsStop tells t
passed_so A B None q x t is halted = tt
passed_so A B (Some v) q x t is halted = λ fault stop. absurd (let clash : Ok x ≡ Err (refusal.Stopped fault) = sym is ∙ halted fault stop in cc)

-- One that passed tells no stop.
pub passed_where : (A : Type 0) (tells : Option View) (x : A) → TellsWhere tells (Ok x)
passed_where A None x = tt
passed_where A (Some v) x = λ fault stop. absurd (let clash : Ok x ≡ Err (refusal.Stopped fault) = stop in cc)

-- One that failed tells it also as what it answers.
pub failed_where : (A B : Type 0) (tells : Option View) (q : Result A StoreFault) (e : StoreFault) → q ≡ Err e → TellsWhere tells q → TellsWhere {A = B} tells (Err e)
failed_where A B None q e failed where_told = tt
failed_where A B (Some v) q e failed where_told = λ fault stop. where_told fault (failed ∙ ap (λ (r : Result B StoreFault). Err (err_or e r)) stop)

-- One that failed says the stop, and so does what it excuses; and it says none where the store went on.
pub failed_halted : (A : Type 0) (tells told : Option View) (q : Result A StoreFault) (e : StoreFault) (x : Excuse) (r : Reply) → q ≡ Err e → TellsStop tells q → TellsWhere told q → is_some told ≡ is_some tells → StopsByFault tells told (fault_in q)
    → ((n : ℕ) → e ≡ refusal.Stopped n → x ≡ excuse.Stopped n) → ((n : ℕ) → x ≡ excuse.Stopped n → e ≡ refusal.Stopped n) → r ≡ reply.Excused x → ExcusesByStop tells r
failed_halted A None told q e x r failed halted told_where telling stops same back is = tt
failed_halted A (Some v) None q e x r failed halted told_where telling stops same back is = (let clash : false ≡ true = telling in absurd cc)
failed_halted A (Some v) (Some w) q e x r failed halted told_where telling stops same back is = record {
  halted = λ fault stop. is ∙ ap reply.Excused (same fault (ap (err_or e) (sym failed ∙ halted fault stop)));
  only = λ fault said.
      let its : q ≡ Err (refusal.Stopped fault) = failed ∙ ap Err (back fault (one_excuse r x (excuse.Stopped fault) is said)) in
      let left : stop_in w.store ≡ stop_after (stop_in v.store) None = stops ∙ ap (λ (p : Result A StoreFault). stop_after (stop_in v.store) (fault_in p)) its in
      stays (stop_in v.store) ∙ sym left ∙ told_where fault its;
}

pub done_stops : (tells told : Option View) (epochs commits : ℕ) (r : Reply) → r ≡ reply.Done → StopsByFault tells told None → Runs tells told None epochs commits → StopsByReply tells told epochs commits r
done_stops tells told epochs commits r is stops ran = subst (λ (q : Reply). StopsByReply tells told epochs commits q) (sym is) (None, refl, stops, ran)

abbrev first_in : List ℕ → Option ℕ
first_in [] = None
first_in (n ∷ ns) = Some n

first_told : (o : Option ℕ) → first_in (told_list o) ≡ o
first_told None = refl
first_told (Some n) = refl

first_fault : (x : Excuse) → first_in (faults_of x) ≡ fault_by (reply.Excused x)
first_fault excuse.Memory = refl
first_fault (excuse.Device fault) = refl
first_fault (excuse.Stopped fault) = refl
first_fault (excuse.Blocks need had) = refl
first_fault excuse.Inodes = refl
first_fault (excuse.Extents need) = refl

-- an excuse uses the fault that its turn told
pub failed_stops : (tells told : Option View) (epochs commits : ℕ) (r : Reply) (x : Excuse) (fault : Option ℕ) → r ≡ reply.Excused x → told_list (fault_told fault) ≡ faults_of x → StopsByFault tells told fault → Runs tells told fault epochs commits → StopsByReply tells told epochs commits r
failed_stops tells told epochs commits r x fault is used stops ran =
    subst (λ (q : Reply). StopsByReply tells told epochs commits q) (sym is) (fault, sym (first_told (fault_told fault)) ∙ ap first_in used ∙ first_fault x, stops, ran)

-- ---- a request that may read

-- what is in memory may be all of a file
pub own_bytes : (c : Content) → IsContentOf c c.bytes
own_bytes c = record { long = refl; same = λ place there. refl }

-- one that no fault of the device excuses tells none
pub no_fault : (r : Reply) → ((n : ℕ) → r ≡ reply.Excused (excuse.Device n) → ⊥) → fault_by r ≡ None
no_fault (reply.Excused (excuse.Device n)) other = absurd (other n refl)
no_fault (reply.Excused excuse.Memory) other = refl
no_fault (reply.Excused (excuse.Stopped n)) other = refl
no_fault (reply.Excused (excuse.Blocks need had)) other = refl
no_fault (reply.Excused excuse.Inodes) other = refl
no_fault (reply.Excused (excuse.Extents need)) other = refl
no_fault reply.Done other = refl
no_fault (reply.Fd n) other = refl
no_fault (reply.Count n) other = refl
no_fault (reply.At n) other = refl
no_fault (reply.Got bytes) other = refl
no_fault (reply.IsFile n) other = refl
no_fault (reply.IsDir n) other = refl
no_fault (reply.Names names) other = refl
no_fault (reply.Refused x) other = refl

-- what it needs was read
pub read_rests : (tells told : Option View) (r : Reply) → fault_by r ≡ None → Rests tells told None → RestsByReply tells told r
read_rests tells told r none rests = (None, sym none, rests)

-- a read failed, and its fault excuses
pub unread_rests : (tells told : Option View) (r : Reply) (x : Excuse) (fault : Option ℕ) → r ≡ reply.Excused x → told_list (fault_told fault) ≡ faults_of x → Rests tells told fault → RestsByReply tells told r
unread_rests tells told r x fault is used rests =
    subst (λ (q : Reply). RestsByReply tells told q) (sym is) (fault, sym (first_told (fault_told fault)) ∙ ap first_in used ∙ first_fault x, rests)

-- No stop excuses it.
pub unstopped : (f read : FileState) (pool : BlockSet) (d : Desc) (request : Op) (n : ℕ) → IsServeCause f read pool d request (excuse.Stopped n) → ⊥
unstopped f read pool d request n (Applied why) = (why read.content.bytes (own_bytes read.content)).cause
unstopped f read pool d request n (Unread allowed lacks kind) = absurd cc

-- ---- two turns, of which the first passed

-- nothing is done
pub stops_still : (o : Option View) → StopsByFault o o None
stops_still None = tt
stops_still (Some v) = stays (stop_in v.store)

pub stops_twice : (had mid has : Option View) (told : Option ℕ) → is_some mid ≡ is_some had → StopsByFault had mid None → StopsByFault mid has told → StopsByFault had has told
stops_twice None mid has told telling first second = tt
stops_twice (Some v) None has told telling first second = (let clash : false ≡ true = telling in absurd cc)
stops_twice (Some v) (Some u) None told telling first second = tt
stops_twice (Some v) (Some u) (Some w) told telling first second = second ∙ ap (λ (s : Option ℕ). stop_after s told) first ∙ after_none (stop_in v.store) told

pub reply_twice : (had mid has : Option View) (a b c d : ℕ) (r : Reply) → is_some mid ≡ is_some had → StopsByFault had mid None → Runs had mid None a b → StopsByReply mid has c d r → StopsByReply had has (a + c) (b + d) r
reply_twice had mid has a b c d r telling first ran second = (second.0, second.1, stops_twice had mid has second.0 telling first second.2, runs_twice had mid has second.0 a b c d telling ran second.3)

-- ---- turns before it and behind it that commit nothing

pub rests_still : (o : Option View) → Rests o o None
rests_still o = (stops_still o, runs_still o 0 0)

pub rests_twice : (had mid has : Option View) (told : Option ℕ) → is_some mid ≡ is_some had → Rests had mid None → Rests mid has told → Rests had has told
rests_twice had mid has told telling first second = (stops_twice had mid has None telling first.0 second.0, runs_twice had mid has told 0 0 0 0 telling first.1 second.1)

pub rests_then : (had mid has : Option View) (told : Option ℕ) → is_some mid ≡ is_some had → Rests had mid told → Rests mid has None → Rests had has told
rests_then had mid has told telling first second = (stops_twice had mid has None telling first.0 second.0, runs_then had mid has told 0 0 0 0 telling first.1 second.1)

pub reply_within : (had from to has : Option View) (r : Reply) → is_some from ≡ is_some had → is_some to ≡ is_some from → Rests had from None → RestsByReply from to r → Rests to has None → RestsByReply had has r
reply_within had from to has r telling also before served behind =
    (served.0, served.1, rests_twice had from has served.0 telling before (rests_then from to has served.0 also served.2 behind))

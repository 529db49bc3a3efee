-- A call that writes stops a store that went on just where the disk failed.
use Rattle.std.proofs.Common.{◌≡◌, ℕ, ◌↔◌, false, None, Some, Option, sym, refl, ◌∙◌, ap, subst}
use Rattle.std.specs.Prelude.{Result, Ok, Err, IfErr, OnErr, OnOk, IsSome, IsTrue}
use Rattle.ufs_base.specs.declared.lack.Lack.{Lack}
use Rattle.ufs_store.specs.Refusals.{IsTold, fault_in, is_no_space, is_of_disk, is_own, stop_after}
use Rattle.ufs_store.specs.State.{StoreState}
use Rattle.ufs_store.specs.declared.fault.StoreFault.{StoreFault}
use Rattle.ufs_store.specs.declared.fault.StoreFault.TheVariants as refusal

-- the stop is the fault that is told
pub stop_is : (before after told : Option ℕ) → before ≡ None → after ≡ stop_after before told → after ≡ told
stop_is before after told none is = is ∙ ap (λ (o : Option ℕ). stop_after o told) none

module _ {T : Type 0} (before after : Option ℕ) (none : before ≡ None) where
  -- the refusal is of this call
  pub device_alone : (r : Result T StoreFault) → IfErr r (λ fault. IsTrue (is_of_disk fault)) → ((fault : ℕ) → (r ≡ Err (refusal.Stopped fault)) ↔ (before ≡ Some fault)) → IfErr r (λ fault. (number : ℕ) × (fault ≡ refusal.Device number))
  device_alone (Ok x) of stopped = of
  device_alone (Err (refusal.Device n)) of stopped = (n, refl)
  device_alone (Err (refusal.Stopped n)) of stopped = (let clash = sym none ∙ (stopped n).0 refl in absurd cc)
  device_alone (Err (refusal.NoSpace need had)) of stopped = (let no = of in absurd cc)
  device_alone (Err (refusal.Lack _)) of stopped = (let no = of in absurd cc)

  -- and the store has stopped then
  pub has_stopped : (r : Result T StoreFault) → after ≡ fault_in r → IfErr r (λ fault. (number : ℕ) × (fault ≡ refusal.Device number)) → OnErr r (IsSome after)
  has_stopped (Ok x) is device = tt
  has_stopped (Err (refusal.Device n)) is device = subst IsSome (sym is) refl
  has_stopped (Err (refusal.Stopped n)) is device = (let clash = device.1 in absurd cc)
  has_stopped (Err (refusal.NoSpace need had)) is device = (let clash = device.1 in absurd cc)
  has_stopped (Err (refusal.Lack _)) is device = (let clash = device.1 in absurd cc)

-- what each clause at an error gives
pub on_err_cases : {T E : Type 0} (r : Result T E) (P : Type 0) → (((S : Type 0) → OnErr r S → S) → P) → OnErr r P
on_err_cases (Ok x) P by = tt
on_err_cases (Err e) P by = by (λ S s. s)

-- a call that passed wrote and settled blocks at most
pub passed_ok : {T : Type 0} (r : Result T StoreFault) (old new : StoreState) → old.stop ≡ None → new ≡ record old { moments = new.moments; faults = new.faults; unsettled = new.unsettled; stop = new.stop } → IsTold old.faults new.faults (fault_in r)
    → new.stop ≡ stop_after old.stop (fault_in r) → OnOk r (new ≡ record old { moments = new.moments; unsettled = new.unsettled })
passed_ok (Ok x) old new none rest told stop =
    let same : new.stop ≡ old.stop = stop_is old.stop new.stop None none stop ∙ sym none in
    rest ∙ (λ i. record old { moments = new.moments; faults = told i; unsettled = new.unsettled; stop = same i })
passed_ok (Err e) old new none rest told stop = tt

-- a commit is refused for want of memory, or the disk failed
pub commit_fails : {A : Type 0} (x : StoreFault) → is_no_space x ≡ false → ((fault : ℕ) → x ≡ refusal.Stopped fault → ⊥) → ((fault : ℕ) → x ≡ refusal.Device fault → A) → ((w : Lack) → x ≡ refusal.Lack w → A) → A
commit_fails (refusal.Device n) space stopped device memory = device n refl
commit_fails (refusal.Stopped n) space stopped device memory = absurd (stopped n refl)
commit_fails (refusal.NoSpace need had) space stopped device memory = absurd cc
commit_fails (refusal.Lack w) space stopped device memory = memory w refl

-- so with a commit's answer
pub commit_err : {T A : Type 0} (r : Result T StoreFault) → IfErr r (λ fault. is_no_space fault ≡ false) → ((fault : ℕ) → r ≡ Err (refusal.Stopped fault) → ⊥) → ((fault : ℕ) → r ≡ Err (refusal.Device fault) → A) → ((w : Lack) → r ≡ Err (refusal.Lack w) → A) → OnErr r A
commit_err (Ok x) space stopped device memory = tt
commit_err (Err x) space stopped device memory = commit_fails x space (λ fault e. stopped fault (ap Err e)) (λ fault e. device fault (ap Err e)) (λ w e. memory w (ap Err e))

pub from_err : {T E A : Type 0} (r : Result T E) (e : E) → r ≡ Err e → OnErr r A → A
from_err r e is on = of r is on
  where
    of : {T E A : Type 0} (r : Result T E) {e : E} → r ≡ Err e → OnErr r A → A
    of (Ok x) is on = (let clash = is in absurd cc)
    of (Err x) is on = on

pub own_alone : (x : StoreFault) → is_no_space x ≡ false → ((fault : ℕ) → x ≡ refusal.Stopped fault → ⊥) → IsTrue (is_own x)
own_alone (refusal.Device n) space stopped = refl
own_alone (refusal.Stopped n) space stopped = absurd (stopped n refl)
own_alone (refusal.NoSpace need had) space stopped = absurd cc
own_alone (refusal.Lack _) space stopped = refl

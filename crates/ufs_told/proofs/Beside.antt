-- What replies tell of the disk's faults.
use Rattle.std.proofs.Common.{◌≡◌, ◌∙◌, ℕ, inl, inr, false, Option, Some, None, ap, refl, subst, sym}
use Rattle.ufs_base.specs.Faults.{RoseTo}
use Rattle.ufs_client.specs.Played.{tells_fault}
use Rattle.ufs_model.specs.declared.data.Excuse.TheVariants as excuse
use Rattle.ufs_model.specs.declared.data.Reply.{Reply}
use Rattle.ufs_model.specs.declared.data.Reply.TheVariants as reply
use Rattle.ufs_store.specs.Refusals.{IsTold, stop_after}
use Rattle.ufs_store.specs.State.{StoreState}
use Rattle.ufs_told.specs.Replies.{IsUntold, TellsFaults, device_in, stopped_in}

pub no_device : (r : Reply) → tells_fault r ≡ false → device_in r ≡ None
no_device reply.Done calm = refl
no_device (reply.Fd fd) calm = refl
no_device (reply.Count n) calm = refl
no_device (reply.At n) calm = refl
no_device (reply.Got bytes) calm = refl
no_device (reply.IsFile size) calm = refl
no_device (reply.IsDir entries) calm = refl
no_device (reply.Names names) calm = refl
no_device (reply.Refused x) calm = refl
no_device (reply.Excused excuse.Memory) calm = refl
no_device (reply.Excused (excuse.Device fault)) calm = absurd cc
no_device (reply.Excused (excuse.Stopped fault)) calm = refl
no_device (reply.Excused (excuse.Blocks need had)) calm = refl
no_device (reply.Excused excuse.Inodes) calm = refl
no_device (reply.Excused (excuse.Extents need)) calm = refl

pub no_stopped : (r : Reply) → tells_fault r ≡ false → stopped_in r ≡ None
no_stopped reply.Done calm = refl
no_stopped (reply.Fd fd) calm = refl
no_stopped (reply.Count n) calm = refl
no_stopped (reply.At n) calm = refl
no_stopped (reply.Got bytes) calm = refl
no_stopped (reply.IsFile size) calm = refl
no_stopped (reply.IsDir entries) calm = refl
no_stopped (reply.Names names) calm = refl
no_stopped (reply.Refused x) calm = refl
no_stopped (reply.Excused excuse.Memory) calm = refl
no_stopped (reply.Excused (excuse.Device fault)) calm = refl
no_stopped (reply.Excused (excuse.Stopped fault)) calm = absurd cc
no_stopped (reply.Excused (excuse.Blocks need had)) calm = refl
no_stopped (reply.Excused excuse.Inodes) calm = refl
no_stopped (reply.Excused (excuse.Extents need)) calm = refl

-- a call that passed stops nothing
pub stop_stays : (stop : Option ℕ) → stop_after stop None ≡ stop
stop_stays None = refl
stop_stays (Some fault) = refl

-- no call failed, and no fault is told
pub calm_told : (old new : StoreState) (r : Reply) → tells_fault r ≡ false → new.faults ≡ old.faults → new.stop ≡ old.stop → TellsFaults old new r
calm_told old new r calm faults stop =
    let none = sym (no_device r calm) in
    inl (record { told = subst (IsTold old.faults new.faults) none faults; stop = stop ∙ sym (stop_stays old.stop) ∙ ap (stop_after old.stop) none })

-- at most one failed that isn't told
pub beside_told : (old new : StoreState) (r : Reply) → tells_fault r ≡ false → IsUntold old new → TellsFaults old new r
beside_told old new r calm (inl none) = calm_told old new r calm none.faults none.stop
beside_told old new r calm (inr (fault, at)) = inr (record { none = no_device r calm; fault = fault; beside = at })

-- two stretches, one behind the other
pub untold_joined : (old mid new : StoreState) → IsUntold old mid → IsUntold mid new → IsUntold old new
untold_joined old mid new (inl one) (inl other) = inl (record { faults = other.faults ∙ one.faults; stop = other.stop ∙ one.stop })
untold_joined old mid new (inl one) (inr (fault, at)) = inr (fault, record { going = sym one.stop ∙ at.going; rose = subst (λ (n : ℕ). RoseTo n new.faults fault) one.faults at.rose; stop = at.stop })
untold_joined old mid new (inr (fault, at)) (inl other) = inr (fault, record { going = at.going; rose = subst (λ (n : ℕ). RoseTo old.faults n fault) (sym other.faults) at.rose; stop = other.stop ∙ at.stop })
untold_joined old mid new (inr (fault, at)) (inr (next, then)) = (let clash = sym at.stop ∙ then.going in absurd cc)

-- a call that tells its own fault, where that isn't told on
pub told_untold : (old new : StoreState) (device : Option ℕ) → IsTold old.faults new.faults device → ((fault : ℕ) → old.stop ≡ Some fault → device ≡ None) → new.stop ≡ stop_after old.stop device → IsUntold old new
told_untold old new device told still stop = by old.stop refl device refl
  where
    none : device ≡ None → IsUntold old new
    none e = inl (record { faults = subst (IsTold old.faults new.faults) e told; stop = stop ∙ ap (stop_after old.stop) e ∙ stop_stays old.stop })

    by : (o : Option ℕ) → old.stop ≡ o → (d : Option ℕ) → device ≡ d → IsUntold old new
    by (Some fault) stopped d e = none (still fault stopped)
    by None going None e = none e
    by None going (Some fault) e = inr (fault, record { going = going; rose = subst (IsTold old.faults new.faults) e told; stop = stop ∙ (λ i. stop_after (going i) (e i)) })

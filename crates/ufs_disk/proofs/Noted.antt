-- One call more of a disk in memory.
use Rattle.std.proofs.Common.{◌≡◌, ◌⊎◌, inl, inr, ⊎_elim, ℕ, true, false, List, [], ◌∷◌, ◌++◌, refl, sym, ◌∙◌, ap, subst}
use Rattle.std.specs.Prelude.{Result, Ok, Err, OnOk, OnErr}
use Rattle.ufs_disk.specs.Disk.{State, IsWhole}
use Rattle.ufs_disk.specs.Moments.{Moments}
use Rattle.ufs_disk.specs.Calls.{after_call, after_request, after_calls}
use Rattle.ufs_disk.specs.declared.medium.Request.{Request}
use Rattle.ufs_disk.specs.declared.medium.Call.{Call}

pub after_push : (calls : List Call) (call : Call) (m : Moments) → after_calls (calls ++ call ∷ []) m ≡ after_call call (after_calls calls m)
after_push [] call m = refl
after_push (c ∷ calls) call m = after_push calls call (after_call c m)

module _ (m : Moments) (old new : List Call) (request : Request) where
  -- the call passed
  pub after_passed : new ≡ old ++ record { request = request; passed = true } ∷ [] → after_calls new m ≡ after_request request (after_calls old m)
  after_passed is = ap (λ (l : List Call). after_calls l m) is ∙ after_push old (record { request = request; passed = true }) m

  -- the call failed, and was noted or not
  pub after_failed : (F S G : Type 0) → ((new ≡ old) × S) ⊎ (F × G × new ≡ old ++ record { request = request; passed = false } ∷ []) → after_calls new m ≡ after_calls old m
  after_failed F S G how = ⊎_elim
      (λ same. ap (λ (l : List Call). after_calls l m) same.0)
      (λ noted. ap (λ (l : List Call). after_calls l m) noted.2 ∙ after_push old (record { request = request; passed = false }) m) how

-- a call's two clauses, whichever way it went
pub either_of : {T E : Type 0} (result : Result T E) (P Q : Type 0) → OnOk result P → OnErr result Q → P ⊎ Q
either_of (Ok x) P Q passed failed = inl passed
either_of (Err e) P Q passed failed = inr failed

-- what was known of the state before is known of an equal one
module _ (old new : Moments) (same : new ≡ old) where
  pub still_held : (state : State) → state ≡ old.state → state ≡ new.state
  still_held state held = held ∙ sym (ap (λ (m : Moments). m.state) same)

  pub still_whole : (size : ℕ) → IsWhole size old.state → IsWhole size new.state
  still_whole size whole = subst (λ (m : Moments). IsWhole size m.state) (sym same) whole

-- what holds after any failure
pub on_err : {T E : Type 0} (result : Result T E) (P : Type 0) → P → OnErr result P
on_err (Ok x) P p = tt
on_err (Err e) P p = p

-- Files are called to the primary, one after the other.
use Rattle.std.proofs.Common.{◌≡◌, ◌⊎◌, ⊎_elim, inl, inr, ℕ, ◌+◌, ◌-◌, ◌^◌, ◌≤◌, List, [], ◌∷◌, ◌++◌, length, length-append, Option, None, refl, ap, sym, ◌∙◌, arith}
use Rattle.ufs_primary.specs.OfAtPrimary.{Ordered}
use Rattle.ufs_base.specs.declared.lack.Lack.{Lack}
use Rattle.ufs_hand_laws.specs.Owned.{one}
use Rattle.ufs_joint.specs.Cells.{Start}
use Rattle.ufs_owner.specs.Owners.{count_out}
use Rattle.ufs_rounds.specs.Moves.{first_lack, is_called, order_lack}
use Rattle.ufs_rounds.specs.Rest.{HasCalled, IsOnlyHeard}
use Rattle.ufs_rounds.specs.Steps.{AreCalls, AreStepsWhere, CallOf, IsCallOf, Step, calls_in, lack_told}
use Rattle.ufs_rounds.specs.Turns.{GlobalState}
use Rattle.ufs_rounds.proofs.StepLemmas.{calls_next, calls_then, first_none, le_one, one_where, told_then, where_then}

-- All files below this one were called. So many of them were found elsewhere, and this lacked.
pub record CallsMade {N : Type 0} (k : Start) (file called : ℕ) (lack : Option Lack) (s t : GlobalState N) : Type 0 where
  pub calls : List Step
  pub are : AreCalls 0 calls
  pub long : length calls ≡ file
  pub steps : AreStepsWhere k IsOnlyHeard calls s t
  pub found : calls_in calls ≡ called
  pub few : called ≤ file
  pub lacks : lack ≡ lack_told calls

module _ {N : Type 0} (k : Start) (s : GlobalState N) where
  pub none_called : CallsMade k 0 0 None s s
  none_called = record { calls = []; are = tt; long = refl; steps = refl; found = refl; few = omega arith; lacks = refl }

  pub next_called : (file called more : ℕ) (lack then : Option Lack) (t u : GlobalState N) (o : Ordered) → CallsMade k file called lack s t → IsCallOf k file t u o → more ≡ called + one (is_called o)
      → then ≡ first_lack lack (order_lack o) → CallsMade k (file + 1) more then s u
  next_called file called more lack then t u o c is counted told = record {
    calls = c.calls ++ CallOf file o ∷ [];
    are = calls_next 0 file c.calls o (let long = c.long in omega (arith, long)) c.are;
    long = length-append c.calls (CallOf file o ∷ []) ∙ ap (λ n. n + 1) c.long;
    steps = where_then k IsOnlyHeard c.calls (CallOf file o ∷ []) s t u c.steps (one_where k IsOnlyHeard (CallOf file o) t u tt is);
    found = calls_then c.calls file o ∙ (λ i. c.found i + one (is_called o)) ∙ sym counted;
    few = by (one (is_called o)) (le_one (is_called o)) c.few counted;
    lacks = told ∙ (λ i. first_lack (c.lacks i) (order_lack o)) ∙ (λ i. first_lack (lack_told c.calls) (sym (first_none (order_lack o)) i)) ∙ sym (told_then c.calls (CallOf file o ∷ []));
  }
    where
      by : (b : ℕ) → b ≤ 1 → called ≤ file → more ≡ called + b → more ≤ file + 1
      by b low few is = omega (arith, low, few, is)

  -- each that was elsewhere is found, or all numbers were looked at
  pub has_called : (file called : ℕ) (lack : Option Lack) (t : GlobalState N) → CallsMade k file called lack s t → (called ≡ count_out s.primary.stock.home.owners) ⊎ (file ≡ 2 ^ 32 - 1) → HasCalled k s t lack
  has_called file called lack t c end = record { calls = c.calls; are = c.are; steps = c.steps; all = ⊎_elim (λ e. inl (c.found ∙ e)) (λ e. inr (c.long ∙ e)) end; lacks = c.lacks }

-- A request that was given back goes again, or is given back again.
use Rattle.std.proofs.Common.{◌≡◌, ℕ, Bool, List, Option, Some, None, sym, refl, ap, ◌∙◌, subst}
use Rattle.std.specs.Prelude.{IfNone, IfSome}
use Rattle.ufs_fds.specs.Descriptors.{Descs}
use Rattle.ufs_hints.specs.Hints.{Pairs}
use Rattle.ufs_joint.specs.Cells.{View}
use Rattle.ufs_model.specs.declared.data.Op.{Op}
use Rattle.ufs_msg.specs.Requests.{Asked}
use Rattle.ufs_caller.specs.Callers.{Caller, Errand}
use Rattle.ufs_caller.specs.Hands.{request_in}
use Rattle.ufs_caller.specs.Tied.{errand_of, seen_of}
use Rattle.ufs_caller.specs.Turns.{HasKept, TriesAgain}
use Rattle.ufs_caller.specs.declared.told.Told.{Told}
use Rattle.ufs_caller.specs.declared.trip.Trip.{Trip}
use Rattle.ufs_caller.proofs.Places.{some_same}

abbrev pub seen : ℕ → List Told → Descs → List Op → View → Option Asked → Option Trip → Pairs → Caller
seen number told fds left hand kept trip hints = record { number = number; told = told; fds = fds; left = left; errand = errand_of hand kept trip; hints = hints; seen = seen_of hand trip }

abbrev pub errand_at : View → Option Asked → Trip → Errand
errand_at hand kept trip = record { request = request_in hand.asked; to = trip.to; via = trip.via; kept = kept; is_again = trip.is_again }

-- what a post says of a request that went, and of one that stays
pub went_as : (P : Asked → Type 0) (old new : Option Asked) (r : Asked) → old ≡ Some r → new ≡ None → IfSome old (λ x. IfNone new (P x)) → P r
went_as P old new r was now w = subst (λ (n : Option Asked). IfNone n (P r)) now (subst (λ (o : Option Asked). IfSome o (λ x. IfNone new (P x))) was w)

pub stays_as : (X : Type 0) (new : Option Asked) (r : Asked) → new ≡ Some r → IfSome new (λ _. X) → X
stays_as X new r now s = subst (λ (o : Option Asked). IfSome o (λ _. X)) now s

module _ (number : ℕ) (told : List Told) (fds : Descs) (left : List Op) (hand : View) (kept kept' : Option Asked) (o : Option Trip) (hints : Pairs) (trip : Trip) (is : o ≡ Some trip)
    (a : Caller) (view : seen number told fds left hand kept o hints ≡ a) (had : HasKept a) where
  errand_a : a.errand ≡ Some (errand_at hand kept trip)
  errand_a = sym (ap (λ (c : Caller). c.errand) view) ∙ ap (errand_of hand kept) is

  pub was_kept : kept ≡ Some had.1
  was_kept = ap (λ (e : Errand). e.kept) (some_same (errand_at hand kept trip) had.0 (sym errand_a ∙ had.2)) ∙ had.3

  pub tries : (again : Bool) (now : Option Asked) → trip.is_again ≡ again → kept' ≡ now → TriesAgain trip.to had.1 now again a (seen number told fds left hand kept' o hints)
  tries again now again_is now_is = record {
    e = errand_at hand kept trip;
    errand = errand_a;
    was_kept = was_kept;
    was_again = again_is;
    to_is = refl;
    all = λ i. record (view i) { errand = (ap (errand_of hand kept') is ∙ ap (λ (k : Option Asked). Some (errand_at hand k trip)) now_is) i };
  }

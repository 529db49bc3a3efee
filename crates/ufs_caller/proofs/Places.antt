-- Where a client's request is, by what contracts see.
use Rattle.std.proofs.Common.{◌≡◌, ℕ, true, false, List, Option, Some, None, is_some, refl, ap, ◌∙◌}
use Rattle.ufs_fds.specs.Descriptors.{Descs}
use Rattle.ufs_joint.specs.Cells.{View}
use Rattle.ufs_model.specs.declared.data.Op.{Op}
use Rattle.ufs_msg.specs.Requests.{Asked}
use Rattle.ufs_caller.specs.Callers.{Errand, entries_in}
use Rattle.ufs_caller.specs.Hands.{IsAway, request_in}
use Rattle.ufs_caller.specs.Tied.{errand_of}
use Rattle.ufs_caller.specs.declared.told.Told.{Told}
use Rattle.ufs_caller.specs.declared.trip.Trip.{Trip}

none_some : {A : Type 0} (x : A) → None ≡ Some x → ⊥
none_some x e = cc

some_none : {A : Type 0} (x : A) → Some x ≡ None → ⊥
some_none x e = cc

pub some_same : {A : Type 0} (x y : A) → Some x ≡ Some y → x ≡ y
some_same x y e = cc

pub some_is : {A : Type 0} (o : Option A) → is_some o ≡ true → (x : A) × (o ≡ Some x)
some_is None e = absurd (no e)
  where
    no : false ≡ true → ⊥
    no e' = cc
some_is (Some x) e = (x, refl)

pub none_is : {A : Type 0} (o : Option A) → is_some o ≡ false → o ≡ None
none_is None e = refl
none_is (Some x) e = absurd (no e)
  where
    no : true ≡ false → ⊥
    no e' = cc

-- no request is under way where contracts see none
pub no_trip : (hand : View) (kept : Option Asked) (trip : Option Trip) → errand_of hand kept trip ≡ None → trip ≡ None
no_trip hand kept None e = refl
no_trip hand kept (Some trip) e = absurd (some_none _ e)

pub no_errand : (hand : View) (kept : Option Asked) (o : Option Trip) → is_some o ≡ false → errand_of hand kept o ≡ None
no_errand hand kept o none = ap (errand_of hand kept) (none_is o none)

-- what is under way is what the hand tells
pub request_is : (number : ℕ) (told : List Told) (table : Descs) (r : Op) (hand : View) → IsAway number (entries_in told) table r hand → request_in hand.asked ≡ r
request_is number told table r hand away = ap request_in away.alone.asked ∙ ap (λ (o : Option Op). Rattle.std.specs.Prelude.unwrap_or o Rattle.ufs_model.specs.declared.data.Op.TheVariants.Sync) away.asked

-- and one where there is one
pub under_way : (hand : View) (kept : Option Asked) (o : Option Trip) → is_some o ≡ true → (e : Errand) × (errand_of hand kept o ≡ Some e) × (e.kept ≡ kept)
under_way hand kept None some = absurd (no some)
  where
    no : false ≡ true → ⊥
    no e = cc
under_way hand kept (Some trip) some = (record { request = request_in hand.asked; to = trip.to; via = trip.via; kept = kept; is_again = trip.is_again }, refl, refl)

-- contracts see one just where there is one
pub same_some : (hand : View) (kept : Option Asked) (o : Option Trip) → is_some o ≡ is_some (errand_of hand kept o)
same_some hand kept None = refl
same_some hand kept (Some trip) = refl

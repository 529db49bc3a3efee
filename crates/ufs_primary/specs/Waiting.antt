-- Requests that wait at the primary, the oldest first.
use Rattle.std.specs.Prelude.{ℕ, ◌≡◌, ◌<◌, ◌++◌, Bool, true, false, List, [], ◌∷◌, Some, refl, slice_get}
use Rattle.std.specs.List.{remove}
use Rattle.std.specs.Coded.{Coded, code_by, coded×, coded_ℕ}
use Rattle.ufs_at_primary.specs.OfHome.{HomeState, called_for}
use Rattle.ufs_msg.specs.Requests.{Asked, asked_code}
use Rattle.ufs_owner.specs.Owners.{Files, is_primary, owner_at}
use Rattle.ufs_at_primary.specs.Noted.{waited_for}

-- a request, and the file that it waits for
pub record Waits : Type 0 where
  pub request : Asked
  pub file : ℕ

abbrev pub waits_code : Coded Waits
waits_code = code_by (Asked × ℕ) (coded× asked_code coded_ℕ) (λ w. (w.request, w.file)) (λ p. record { request = p.0; file = p.1 }) (λ _. refl)

-- Its file has come.
abbrev pub has_come : Files → Waits → Bool
has_come owners w = is_primary (owner_at owners w.file)

-- The oldest one whose file has come stands there.
pub record IsOldestAt (owners : Files) (items : List Waits) (place : ℕ) (one : Waits) : Type 0 where
  pub at : slice_get items place ≡ Some one
  pub come : has_come owners one ≡ true
  pub older : (i : ℕ) (w : Waits) → i < place → slice_get items i ≡ Some w → has_come owners w ≡ false

-- It was the oldest one whose file has come.
pub record TakesOldest (owners : Files) (old new : List Waits) (one : Waits) : Type 0 where
  pub place : ℕ
  pub oldest : IsOldestAt owners old place one
  pub rest : new ≡ remove old place

-- There is none.
abbrev pub AllWait : Files → List Waits → Type 0
AllWait owners old = (i : ℕ) (w : Waits) → slice_get old i ≡ Some w → has_come owners w ≡ false

-- The file is asked for, and the request waits, behind all others.
pub record IsPutOff (h g : HomeState) (old new : List Waits) (r : Asked) (file : ℕ) : Type 0 where
  pub home : g ≡ waited_for (called_for h file) file r.ask.client
  pub waiting : new ≡ old ++ record { request = r; file = file } ∷ []

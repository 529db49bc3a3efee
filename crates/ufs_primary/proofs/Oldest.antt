-- The oldest of those that wait.
use Rattle.std.proofs.Common.{◌≡◌, ◌<◌, ◌≤◌, ◌+◌, ◌⊎◌, ◌↔◌, ℕ, inl, inr, false, List, length, Option, Some, None, MatchOption, get_or, slice_get, sym, ap, subst, ◌∙◌, arith}
use Rattle.std.specs.Prelude.{IfSome, IsSome, OnSome, remove}
use Rattle.std.proofs.lemmas.Bool.{cases_lt}
use Rattle.std.proofs.lemmas.Option.{get_or_from_slice_get, slice_get_within}
use Rattle.ufs_model.proofs.Facts.Lookups.{same_some}
use Rattle.ufs_owner.specs.Owners.{Files}
use Rattle.ufs_primary.specs.Waiting.{AllWait, IsOldestAt, TakesOldest, Waits, has_come}

-- So many from the first on wait still.
abbrev pub WaitBelow : Files → List Waits → ℕ → Type 0
WaitBelow owners items place = (i : ℕ) (w : Waits) → i < place → slice_get items i ≡ Some w → has_come owners w ≡ false

pub none_waits : (owners : Files) (items : List Waits) → WaitBelow owners items 0
none_waits owners items i w less is = absurd (omega (arith, less))

pub one_more : (owners : Files) (items : List Waits) (place next : ℕ) (one : Waits) → next ≡ place + 1 → WaitBelow owners items place → slice_get items place ≡ Some one → has_come owners one ≡ false → WaitBelow owners items next
one_more owners items place next one step below at waits i w less is = by (cases_lt i place)
  where
    by : (i < place) ⊎ (place ≤ i) → has_come owners w ≡ false
    by (inl l) = below i w l is
    by (inr l) =
        let e : i ≡ place = omega (arith, step, less, l) in
        ap (λ (x : Waits). has_come owners x) (same_some w one (sym is ∙ ap (slice_get items) e ∙ at)) ∙ waits

-- there is none behind them
pub all_wait : (owners : Files) (items : List Waits) (place len : ℕ) → len ≡ length items → (place < len → ⊥) → WaitBelow owners items place → AllWait owners items
all_wait owners items place len size end below i w is = by (cases_lt i place)
  where
    by : (i < place) ⊎ (place ≤ i) → has_come owners w ≡ false
    by (inl l) = below i w l is
    by (inr l) = let less = slice_get_within items i w is in absurd (end (omega (arith, size, less, l)))

-- ---- it is taken out

pub stands : (owners : Files) (items : List Waits) (place len : ℕ) (one : Waits) → len ≡ length items → IsOldestAt owners items place one → place < len
stands owners items place len one size oldest = let less = slice_get_within items place one oldest.at in omega (arith, size, less)

pub taken_is : (owners : Files) (old new : List Waits) (place len : ℕ) (one : Waits) (r : Option Waits) → len ≡ length old → IsOldestAt owners old place one → (IsSome r ↔ (place < len))
    → IfSome r (λ y. y ≡ get_or old place y) → OnSome r (new ≡ remove old place) → MatchOption r (AllWait owners old × (new ≡ old)) (TakesOldest owners old new)
taken_is owners old new place len one None size oldest some value items = absurd (let no = some.1 (stands owners old place len one size oldest) in cc)
taken_is owners old new place len one (Some x) size oldest some value items =
    let same : one ≡ x = sym (value ∙ get_or_from_slice_get old place one x oldest.at) in
    record { place = place; oldest = subst (IsOldestAt owners old place) same oldest; rest = items }

-- and one fewer waits
pub one_fewer : (owners : Files) (old : List Waits) (place len left : ℕ) (one : Waits) (r : Option Waits) → len ≡ length old → IsOldestAt owners old place one → (IsSome r ↔ (place < len)) → OnSome r (left + 1 ≡ len) → MatchOption r (left ≡ len) (λ _. left < len)
one_fewer owners old place len left one None size oldest some fewer = absurd (let no = some.1 (stands owners old place len one size oldest) in cc)
one_fewer owners old place len left one (Some x) size oldest some fewer = omega (arith, fewer)

-- A stretch of places in a list.
use Rattle.std.specs.Prelude.{ℕ, ◌≡◌, ◌⊎◌, ◌≤◌, ◌<◌, max, List, length, slice_get, Bool, true, Some}
use Rattle.ufs_file.specs.declared.span.Span.{Span}

-- the place is of the span
abbrev pub IsIn : Span → ℕ → Type 0
IsIn s place = (s.from ≤ place) × (place < s.to)

-- the span has some place
abbrev pub HasSome : Span → Type 0
HasSome s = s.from < s.to

-- Each place with a mark is of the span, which begins with the first of them, and ends with the list at the latest.
pub record AreWithin (s : Span) (marks : List Bool) : Type 0 where
  pub marked : (place : ℕ) → slice_get marks place ≡ Some true → IsIn s place
  pub first : HasSome s → slice_get marks s.from ≡ Some true
  pub ordered : s.from ≤ s.to
  pub there : s.to ≤ length marks

-- The second span has the places of the first, and those from one on, below another. It begins where one of them does.
pub record HasBoth (s : Span) (from to : ℕ) (t : Span) : Type 0 where
  pub ordered : t.from ≤ t.to
  pub kept : (place : ℕ) → IsIn s place → IsIn t place
  pub added : (place : ℕ) → from ≤ place → place < to → IsIn t place
  pub first : HasSome t → (HasSome s × (t.from ≡ s.from)) ⊎ ((from < to) × (t.from ≡ from))
  pub end : t.to ≤ max s.to to

-- The second span has the places of the first below this one, and ends there at the latest.
pub record HasBelow (s : Span) (end : ℕ) (t : Span) : Type 0 where
  pub ordered : t.from ≤ t.to
  pub kept : (place : ℕ) → place < end → IsIn s place → IsIn t place
  pub first : HasSome t → HasSome s × (t.from ≡ s.from)
  pub there : t.to ≤ end

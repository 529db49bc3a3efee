-- The places of files at the primary.
use Rattle.std.specs.Prelude.{ℕ, ◌≡◌, cond, is_some, Option, Some, None}
use Rattle.std.specs.FinMap as fin
use Rattle.std.specs.Ordering.{nat_cmp}
use Rattle.ufs_joint.specs.Cells.{FileCell}

-- by the numbers of files; a place without a file is kept for one that is elsewhere, or that is to come
abbrev pub Places : Type 0
Places = fin.FinMap nat_cmp (Option FileCell)

abbrev pub in_place : Option (Option FileCell) → Option FileCell
in_place None = None
in_place (Some o) = o

-- the file of this number, if it is here
abbrev pub file_here : Places → ℕ → Option FileCell
file_here places file = in_place (fin.get places file)

-- each file is in the place of its number
abbrev pub AreNumbered : Places → Type 0
AreNumbered places = (f : ℕ) (c : FileCell) → file_here places f ≡ Some c → c.value.file.file ≡ f

-- there is a place for this file
abbrev pub with_place : Places → ℕ → Places
with_place places file = cond (is_some (fin.get places file)) places (fin.insert places file None)

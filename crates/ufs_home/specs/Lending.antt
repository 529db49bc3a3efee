-- All files that are at the primary, lent at once for a request that touches all, as a `sync` does.
use Rattle.std.specs.Prelude.{ℕ, ◌≡◌, ◌≤◌, ◌<◌, ◌^◌, ◌++◌, eqb, List, [], ◌∷◌, Option, Some, None}
use Rattle.std.specs.FinMap as fin
use Rattle.ufs_held.specs.Together.{under_numbers}
use Rattle.ufs_joint.specs.Cells.{FileCell}
use Rattle.ufs_hand_laws.specs.Owned.{count}
use Rattle.ufs_home.specs.Places.{Places}

-- Each of these files has a place, which is empty, no pool has so low a number, and no two of them have one number.
pub record AreAway (places : Places) (files : List FileCell) : Type 0 where
  pub empty : (file : ℕ) → 1 ≤ count eqb file (under_numbers files) → fin.get places file ≡ Some None
  pub low : (file : ℕ) → 1 ≤ count eqb file (under_numbers files) → file < 2 ^ 31
  pub once : (file : ℕ) → count eqb file (under_numbers files) ≤ 1

-- each of these files is in its place
abbrev pub put_all : Places → List FileCell → Places
put_all places [] = places
put_all places (c ∷ cs) = put_all (fin.insert places c.value.file.file (Some c)) cs

-- These are away now; where all of them are put back, all is as it was.
pub record AreLent (was now : Places) (files : List FileCell) : Type 0 where
  pub away : AreAway now files
  pub back : put_all now files ≡ was

-- ---- all that are here

abbrev pub one_in : Option FileCell → List FileCell
one_in None = []
one_in (Some c) = c ∷ []

abbrev pub files_among : List (ℕ × Option FileCell) → List FileCell
files_among [] = []
files_among (e ∷ es) = one_in e.1 ++ files_among es

-- the files in their places, by rising number
abbrev pub files_in : Places → List FileCell
files_in places = files_among (fin.entries places)

-- The names at a server: the hand has just their cell, and the cell has what the server has.
use Rattle.std.specs.Prelude.{ℕ, ◌≡◌, ◌≤◌, Bool, true, List, [], ◌∷◌}
use Rattle.std.specs.FinSet as set
use Rattle.ufs_joint.specs.Cells.{NamesCell, View}
use Rattle.ufs_noted.specs.Noted.{Noted}
use Rattle.ufs_turns.specs.NamesLent.{names_kept}

abbrev pub first_names : Noted → List (Unit {0} × NamesCell) → NamesCell
first_names x [] = record { value = x.names; fresh = x.fresh; dropped = x.dropped; named = set.empty; changed = 0; known = 0 }
first_names x (c ∷ cs) = c.1

-- what the cell has of the names and of what was noted of them
abbrev pub noted_in : NamesCell → Noted
noted_in c = record { names = c.value; fresh = c.fresh; dropped = c.dropped }

-- The hand has this cell of the names, and nothing else.
pub record HasNamesAlone (cell : NamesCell) (v : View) : Type 0 where
  pub clients : v.clients ≡ []
  pub asked : v.asked ≡ []
  pub files : v.files ≡ []
  pub pools : v.pools ≡ []
  pub names : v.names ≡ (tt, cell) ∷ []
  pub store : v.store ≡ []

-- It has a cell with this.
pub record HoldsNames (x : Noted) (v : View) : Type 0 where
  pub cell : NamesCell
  pub alone : HasNamesAlone cell v
  pub value : noted_in cell ≡ x

-- The names are committed: nothing is noted, no block is fresh, the commit has each live file, and where the disk is visible all that
-- changed of them is known as committed.
pub record AreCommitted (visible : Bool) (was now : NamesCell) : Type 0 where
  pub is : now ≡ names_kept now.known was
  pub all : visible ≡ true → was.changed ≤ now.known

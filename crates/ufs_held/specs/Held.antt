-- A file at a server: the hand has just its cell, and the cell's value is what the server has.
use Rattle.std.specs.Prelude.{ℕ, ◌≡◌, false, List, [], ◌∷◌}
use Rattle.ufs_file_commits.specs.State.{DurableState}
use Rattle.ufs_joint.specs.Cells.{FileCell, View}

abbrev pub first_cell : DurableState → List (ℕ × FileCell) → FileCell
first_cell x [] = record { value = x; changed = 0; known = 0; born = false }
first_cell x (c ∷ cs) = c.1

-- The hand has this file's cell, and nothing else.
pub record HasFileAlone (cell : FileCell) (v : View) : Type 0 where
  pub clients : v.clients ≡ []
  pub asked : v.asked ≡ []
  pub files : v.files ≡ (cell.value.file.file, cell) ∷ []
  pub pools : v.pools ≡ []
  pub names : v.names ≡ []
  pub store : v.store ≡ []

-- It has the cell of this file, which is so.
pub record IsHeld (x : DurableState) (v : View) : Type 0 where
  pub cell : FileCell
  pub clients : v.clients ≡ []
  pub asked : v.asked ≡ []
  pub files : v.files ≡ (x.file.file, cell) ∷ []
  pub pools : v.pools ≡ []
  pub names : v.names ≡ []
  pub store : v.store ≡ []
  pub value : cell.value ≡ x

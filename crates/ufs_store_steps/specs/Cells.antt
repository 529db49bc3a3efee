-- A disk's state as the sound state has it: the cells of its sectors, one after the other.
use Rattle.std.specs.Prelude.{ℕ, ◌≡◌, ◌<◌, length, map, Some, slice_get}
use Rattle.std.specs.List.{range_with_len}
use Rattle.ufs_disk.specs.Disk.{State}
use Rattle.ufs_hand_laws.specs.Parts.{Cells}

-- of a disk of so many sectors
abbrev pub cells_of : ℕ → State → Cells
cells_of sectors state = map state (range_with_len 0 sectors)

-- These are the cells of a disk of so many sectors in this state.
pub record AreCellsOf (sectors : ℕ) (state : State) (cells : Cells) : Type 0 where
  pub size : length cells ≡ sectors
  pub each : (sector : ℕ) → sector < sectors → slice_get cells sector ≡ Some (state sector)

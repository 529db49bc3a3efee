-- The contents that writes have covered since the last barrier.
use Rattle.std.specs.Prelude.{ℕ, ◌-◌, ◌*◌, ◌/◌, List, [], ◌∷◌, ◌++◌, length, take, drop, if◌then◌else◌, nat_le, nat_lt, ◌&&◌}
use Rattle.ufs_disk.specs.Disk.{State}
use Rattle.ufs_disk.specs.Bytes.{image_of}
use Rattle.ufs_disk.specs.declared.medium.Covered.{Covered}

-- what one write covered in the sector
abbrev pub covered_by : ℕ → Covered → List (List ℕ)
covered_by sector covered =
    if nat_le covered.sector sector && nat_lt (sector - covered.sector) (length covered.bytes.items / 512)
    then take 512 (drop (512 * (sector - covered.sector)) covered.bytes.items) ∷ []
    else []

-- what the writes covered in the sector, oldest first
abbrev pub covered_in : ℕ → List Covered → List (List ℕ)
covered_in sector [] = []
covered_in sector (covered ∷ rest) = covered_by sector covered ++ covered_in sector rest

-- the state by what a read gives and what is covered
abbrev pub held_state : List ℕ → List Covered → State
held_state bytes covered sector = record { older = covered_in sector covered; seen = image_of bytes sector }

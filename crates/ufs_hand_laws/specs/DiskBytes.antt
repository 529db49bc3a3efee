-- A file's block that isn't in memory has its bytes on the disk.
use Rattle.std.specs.Prelude.{ℕ, ◌*◌, ◌≡◌, ◌==◌, Bool, false, List, [], Some, slice_get}
use Rattle.std.specs.List.{list_any}
use Rattle.ufs_disk.specs.Disk.{Cell, State, bytes_from, seen}
use Rattle.ufs_model.specs.FileBytes.{part, resized, block_size}
use Rattle.ufs_hand_laws.specs.Parts.{FilePart, Cells, World}

abbrev pub empty_cell : Cell
empty_cell = record { older = []; seen = [] }

-- a disk of these sectors
abbrev pub state_of : Cells → State
state_of cells sector = Rattle.std.specs.Prelude.unwrap_or (slice_get cells sector) empty_cell

-- a block, as a read gives it
abbrev pub block_on : Cells → ℕ → List ℕ
block_on cells b = bytes_from (seen (state_of cells)) (b * 8) 8

-- a block's bytes in a file, with zeros behind its end
abbrev pub block_in : List ℕ → ℕ → List ℕ
block_in bytes place = resized (part bytes (place * block_size) block_size) block_size

-- the block at that place isn't in memory
abbrev pub is_loaded : FilePart → ℕ → Bool
is_loaded p place = list_any (λ x. x == place) p.loaded

-- the disk has a file's blocks that aren't in memory
abbrev pub IsOnDisk : FilePart → Cells → Type 0
IsOnDisk p cells = (place b : ℕ) → slice_get p.blocks place ≡ Some b → is_loaded p place ≡ false → block_on cells b ≡ block_in p.bytes place

abbrev pub HasDiskBytes : World → Type 0
HasDiskBytes G = (f : ℕ) (p : FilePart) → G.file f ≡ Some p → IsOnDisk p G.store.state

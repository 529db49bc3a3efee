-- What was read of files since the beginning. Over a disk that contracts don't see, what a read gives isn't determined: so a session may
-- begin with each tree of a family, and each block that is read narrows the family.
use Rattle.std.specs.Prelude.{ℕ, ◌≡◌, ◌+◌, Bool, true, false, List, [], ◌∷◌, Some}
use Rattle.std.specs.List.{slice_get}
use Rattle.ufs_file.specs.Content.{own_bytes}
use Rattle.ufs_model.specs.FileBytes.{bytes_of}
use Rattle.ufs_model.specs.PosixTree.{PosixTree}
use Rattle.ufs_hand_laws.specs.Owned.{Has}
use Rattle.ufs_joint.specs.Cells.{FileCell}

-- A block of a file that was read, by its place, and the file's own bytes in it at the beginning.
pub record Pick : Type 0 where
  pub file : ℕ
  pub place : ℕ
  pub bytes : List ℕ

-- what a tree has of a file's block
abbrev pub bytes_at : PosixTree → ℕ → ℕ → List ℕ
bytes_at t file place = own_bytes (bytes_of t.bytes file) place

-- The tree has these bytes there.
abbrev pub HasPicked : List Pick → PosixTree → Type 0
HasPicked picks t = (pick : Pick) → Has pick picks → bytes_at t pick.file pick.place ≡ pick.bytes

-- Nothing was read there.
abbrev pub IsUnpicked : List Pick → ℕ → ℕ → Type 0
IsUnpicked picks file place = (pick : Pick) → Has pick picks → pick.file ≡ file → pick.place ≡ place → ⊥

-- No block was read twice.
abbrev pub ArePicksOnce : List Pick → Type 0
ArePicksOnce [] = Unit {0}
ArePicksOnce (pick ∷ picks) = IsUnpicked picks pick.file pick.place × ArePicksOnce picks

-- A block of the file isn't in memory.
abbrev pub IsAbsent : FileCell → ℕ → Type 0
IsAbsent c place = slice_get c.value.file.content.there place ≡ Some false

-- ---- what comes into memory

abbrev pub pick_at : ℕ → List ℕ → ℕ → Pick
pick_at file bytes place = record { file = file; place = place; bytes = own_bytes bytes place }

-- the blocks of the file that weren't in memory and are now, where the first mark is that of this place
abbrev pub picks_from : ℕ → List ℕ → (was now : List Bool) → ℕ → List Pick
picks_from file bytes [] now place = []
picks_from file bytes (b ∷ was) [] place = []
picks_from file bytes (true ∷ was) (c ∷ now) place = picks_from file bytes was now (place + 1)
picks_from file bytes (false ∷ was) (true ∷ now) place = pick_at file bytes place ∷ picks_from file bytes was now (place + 1)
picks_from file bytes (false ∷ was) (false ∷ now) place = picks_from file bytes was now (place + 1)

-- The plan over a list of loads.
use Rattle.std.specs.Prelude.{◌≡◌, ◌<◌, ◌≤◌, ◌+◌, ◌-◌, ◌==◌, ◌⊎◌, ℕ, if◌then◌else◌, List, [], ◌∷◌, length, map}
use Rattle.ufs_model.specs.declared.data.Load.{Load}
use Rattle.ufs_load.specs.declared.moves.Move.{Move}

-- what a load counts on a worker
abbrev pub part_on : Load → ℕ → ℕ
part_on l worker = if l.worker == worker then l.count else 0

-- the load of a worker: the counts of its files together
abbrev pub load_of : List Load → ℕ → ℕ
load_of [] worker = 0
load_of (l ∷ loads) worker = part_on l worker + load_of loads worker

-- a worker that is there, such that none has more, and none before it as much
pub record IsMost (load : ℕ → ℕ) (workers w : ℕ) : Type 0 where
  pub there : 1 ≤ w
  pub within : w ≤ workers
  pub most : (v : ℕ) → 1 ≤ v → v ≤ workers → load v ≤ load w
  pub lowest : (v : ℕ) → 1 ≤ v → v < w → load v < load w

-- a worker that is there, such that none has less, and none before it as little
pub record IsLeast (load : ℕ → ℕ) (workers w : ℕ) : Type 0 where
  pub there : 1 ≤ w
  pub within : w ≤ workers
  pub least : (v : ℕ) → 1 ≤ v → v ≤ workers → load w ≤ load v
  pub lowest : (v : ℕ) → 1 ≤ v → v < w → load w < load v

abbrev pub IsOneOf : List Load → Load → Type 0
IsOneOf [] l = ⊥
IsOneOf (x ∷ loads) l = (x ≡ l) ⊎ IsOneOf loads l

-- a load of the worker that is positive and below the limit
pub record MayGo (loads : List Load) (from limit : ℕ) (l : Load) : Type 0 where
  pub one : IsOneOf loads l
  pub on : l.worker ≡ from
  pub positive : 0 < l.count
  pub below : l.count < limit

-- of those that may go, none counts more, and none that counts as much has a lower file
pub record IsChosen (loads : List Load) (from limit : ℕ) (l : Load) : Type 0 where
  pub may : MayGo loads from limit l
  pub greatest : (m : Load) → MayGo loads from limit m → m.count ≤ l.count
  pub lowest : (m : Load) → MayGo loads from limit m → m.count ≡ l.count → l.file ≤ m.file

-- the file goes from the most loaded worker to the least, and is the one chosen of those below their difference
pub record IsNextMove (loads : List Load) (workers : ℕ) (move : Move) : Type 0 where
  pub from : IsMost (load_of loads) workers move.from
  pub to : IsLeast (load_of loads) workers move.to
  pub load : Load
  pub file : load.file ≡ move.file
  pub chosen : IsChosen loads move.from (load_of loads move.from - load_of loads move.to) load

abbrev pub on_worker : ℕ → ℕ → Load → Load
on_worker file to l = if l.file == file then (record { file = l.file; worker = to; count = l.count }) else l

-- the loads after a move
abbrev pub after : List Load → Move → List Load
after loads move = map (on_worker move.file move.to) loads

-- each move is the next one, and these loads are left
abbrev pub Lead : List Load → ℕ → List Move → List Load → Type 0
Lead loads workers [] left = left ≡ loads
Lead loads workers (m ∷ moves) left = IsNextMove loads workers m × Lead (after loads m) workers moves left

-- moves one after another, up to the limit or until there is none
pub record IsPlan (loads : List Load) (workers limit : ℕ) (moves : List Move) : Type 0 where
  pub left : List Load
  pub lead : Lead loads workers moves left
  pub few : length moves ≤ limit
  pub whole : length moves < limit → (m : Move) → IsNextMove left workers m → ⊥

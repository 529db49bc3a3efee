-- How the choice among a worker's loads goes.
use Rattle.std.specs.Prelude.{◌≡◌, ◌<◌, ◌≤◌, ◌⊎◌, ℕ, List, [], ◌∷◌, Option, None, Some}
use Rattle.ufs_model.specs.declared.data.Load.{Load}
use Rattle.ufs_load.specs.Plan.{MayGo, IsChosen}

-- the chosen load, or none where none may go
abbrev pub IsBestOf : List Load → ℕ → ℕ → Option Load → Type 0
IsBestOf loads from limit None = (m : Load) → MayGo loads from limit m → ⊥
IsBestOf loads from limit (Some l) = IsChosen loads from limit l

abbrev pub IsFit : ℕ → ℕ → Load → Type 0
IsFit from limit l = (l.worker ≡ from) × (0 < l.count) × (l.count < limit)

-- no lighter, and no higher a file at the same count
pub record IsAhead (a b : Load) : Type 0 where
  pub count : b.count ≤ a.count
  pub file : b.count ≡ a.count → a.file ≤ b.file

-- which of the two goes ahead
abbrev pub Beats : Option Load → Load → Load → Type 0
Beats None l r = r ≡ l
Beats (Some o) l r = ((r ≡ l) ⊎ (r ≡ o)) × IsAhead r l × IsAhead r o

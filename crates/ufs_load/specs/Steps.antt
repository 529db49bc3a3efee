-- The next move, if there is one.
use Rattle.std.specs.Prelude.{ℕ, List, Option, None, Some}
use Rattle.ufs_model.specs.declared.data.Load.{Load}
use Rattle.ufs_load.specs.declared.moves.Move.{Move}
use Rattle.ufs_load.specs.Plan.{IsNextMove}

abbrev pub IsMoveOf : List Load → ℕ → Option Move → Type 0
IsMoveOf loads workers None = (m : Move) → IsNextMove loads workers m → ⊥
IsMoveOf loads workers (Some m) = IsNextMove loads workers m

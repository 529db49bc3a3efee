-- What a client takes of memory.
use Rattle.std.specs.Prelude.{ℕ, ◌≡◌, ◌≤◌, List, [], length}
use Rattle.std.specs.List.{AllByRecursion}
use Rattle.ufs_hints.specs.Hints.{Pairs}
use Rattle.ufs_model.specs.Bounds.{IsBounded}
use Rattle.ufs_model.specs.declared.data.Op.{Op}
use Rattle.ufs_caller.specs.declared.told.Told.{Told}

-- Nothing was answered yet, and there is room for the answers to all of these.
pub record IsRoom (told : List Told) (left : List Op) (hints : Pairs) (room : ℕ) : Type 0 where
  pub none : told ≡ []
  pub unhinted : hints ≡ []
  pub fits : length left ≤ room
  pub few : length left ≤ 65536
  pub bounded : AllByRecursion IsBounded left

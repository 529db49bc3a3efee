-- Who made the answers that the clients were told.
use Rattle.std.specs.Prelude.{ℕ, suc, List, [], ◌∷◌}
use Rattle.ufs_caller.specs.Tied.{AreMadeThere}
use Rattle.ufs_caller.specs.declared.told.Told.{Told}
use Rattle.ufs_joint.specs.Cells.{Start}

-- Each answer is by its client itself or by a server that is there, and so are the servers to which it went before; of each client, from
-- this one on.
abbrev pub AreMadeFrom : Start → ℕ → List (List Told) → Type 0
AreMadeFrom k client [] = Unit {0}
AreMadeFrom k client (told ∷ lists) = AreMadeThere k client told × AreMadeFrom k (suc client) lists

abbrev pub AreAllMadeThere : Start → List (List Told) → Type 0
AreAllMadeThere k lists = AreMadeFrom k 0 lists

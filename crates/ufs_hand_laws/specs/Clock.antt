-- A hand reads the clock, and the hand with the names moves it.
use Rattle.std.specs.Prelude.{ℕ, ◌+◌, [], ◌∷◌}
use Rattle.ufs_hand_laws.specs.Parts.{NamesPart, View, Word}

abbrev pub looked : Word → View → View
looked word v = record v { seen = word.tickets; clock = word.clock }

abbrev pub at_clock : ℕ → NamesPart → NamesPart
at_clock clock n = record n { clock = clock }

abbrev pub ticked : Word → ℕ → NamesPart → View → View
ticked word by n v = record v { names = (tt, at_clock (word.clock + by) n) ∷ []; seen = word.tickets; clock = word.clock + by }

-- A block that is lent.
use Rattle.std.specs.Prelude.{ℕ, List, [], ◌∷◌, Option, Some, None}

-- the one block, or none
abbrev pub listed : Option ℕ → List ℕ
listed None = []
listed (Some block) = block ∷ []

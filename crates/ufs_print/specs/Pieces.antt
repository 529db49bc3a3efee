-- Text on its way to a sink, of which the last may wait to be written.
use Rattle.std.specs.Prelude.{ℕ, ◌≡◌, ◌++◌, List, Option}
use Rattle.std.specs.Io.KnownBytes.{Appends}
use Rattle.ufs_print.specs.Lines.{AreFirstLines, IsFront}

-- the most bytes that wait, and that one call of a sink is given
abbrev pub piece : ℕ
piece = 65536

-- A sink that is visible got all of a text but what waits.
abbrev pub IsPassed : (old new : Option (List ℕ)) (waiting text : List ℕ) → Type 0
IsPassed old new waiting text = (sent : List ℕ) × Appends old new sent × (sent ++ waiting ≡ text)

-- It got a front of a text.
abbrev pub GotFront : (old new : Option (List ℕ)) → List ℕ → Type 0
GotFront old new whole = (front : List ℕ) × IsFront front whole × Appends old new front

-- It got the first of these lines, whole.
abbrev pub GotLines : (old new : Option (List ℕ)) → List ℕ → Type 0
GotLines old new lines = (front : List ℕ) × AreFirstLines front lines × Appends old new front

-- Behind what waited before, it got the first of these lines, whole, but what waits now.
abbrev pub PutLines : (old new : Option (List ℕ)) (waiting before lines : List ℕ) → Type 0
PutLines old new waiting before lines = (front : List ℕ) × AreFirstLines front lines × IsPassed old new waiting (before ++ front)

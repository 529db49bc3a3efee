-- Lines, and fronts of them.
use Rattle.std.specs.Prelude.{ℕ, List, [], ◌∷◌, ◌++◌, ◌≡◌, ◌⊎◌}

abbrev pub line : List ℕ → List ℕ
line text = text ++ 10 ∷ []

-- the first of these bytes is the front of the second
abbrev pub IsFront : List ℕ → List ℕ → Type 0
IsFront front whole = (rest : List ℕ) × (front ++ rest ≡ whole)

-- the first of these bytes is the first whole lines of the second
pub record AreFirstLines (front whole : List ℕ) : Type 0 where
  pub front_is : IsFront front whole
  pub ended : (front ≡ []) ⊎ ((before : List ℕ) × (front ≡ line before))

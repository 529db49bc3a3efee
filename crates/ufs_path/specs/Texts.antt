-- How a path that was read is kept: the bytes of its whole path, and the place where each component ends.
use Rattle.std.specs.Prelude.{ℕ, ◌+◌, List, [], ◌∷◌, ◌++◌, ◌≡◌, length}
use Rattle.ufs_model.specs.Paths.{components, IsWhole}

-- a slash before each component
abbrev pub joined : List (List ℕ) → List ℕ
joined [] = []
joined (name ∷ names) = (47 ∷ name) ++ joined names

-- the ends of the components, where the first one's slash stands at this place
abbrev pub ends_from : ℕ → List (List ℕ) → List ℕ
ends_from at [] = []
ends_from at (name ∷ names) = (at + 1 + length name) ∷ ends_from (at + 1 + length name) names

-- what is kept is a whole path with the ends of its components
pub record IsKept (bytes ends : List ℕ) : Type 0 where
  pub whole : IsWhole bytes
  pub ends_are : ends ≡ ends_from 0 (components bytes)

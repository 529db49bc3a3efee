-- The runs of a plain ring.
use Rattle.std.specs.Prelude.{◌≡◌, ◌<◌, ℕ, List, [], ◌∷◌, ◌++◌, length}

-- what was put, what was taken and what is held after some puts and takes that weren't refused
pub data Run {T : Type 0} (capacity : ℕ) : List T → List T → List T → Type 0 where
  made : Run capacity [] [] []
  put : (p t h : List T) (x : T) → Run capacity p t h → length h < capacity → Run capacity (p ++ x ∷ []) t (h ++ x ∷ [])
  took : (p t h : List T) (x : T) → Run capacity p t (x ∷ h) → Run capacity p (t ++ x ∷ []) h

abbrev pub IsFrontOf : {T : Type 0} → List T → List T → Type 0
IsFrontOf {T} xs ys = (rest : List T) × (ys ≡ xs ++ rest)

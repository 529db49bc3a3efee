-- A disk over a file.
use Rattle.std.specs.Prelude.{ℕ, ◌≡◌, ◌⊎◌}

-- What a disk knows of its file: nothing yet; that there is none; that it has the file, and its lock; or that it can't have
-- them.
pub data FileState : Type 0 where
  Unopened : FileState
  Missing : FileState
  Open : FileState
  Refused : FileState

-- What it knows, and how many calls failed.
pub record FileView : Type 0 where
  pub file : FileState
  pub faults : ℕ

-- A disk that found no file reads zeros, as past a file's end.
abbrev pub CanAnswer : FileState → Type 0
CanAnswer file = (file ≡ Open) ⊎ (file ≡ Missing)

-- A disk that has its file keeps it, and one that can't have it doesn't try again.
abbrev pub IsSettledFile : FileState → Type 0
IsSettledFile file = (file ≡ Open) ⊎ (file ≡ Refused)

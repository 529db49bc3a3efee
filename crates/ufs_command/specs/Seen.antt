-- What is seen of a source, a sink and a disk over a command.
use Rattle.std.specs.Prelude.{ℕ, ◌≡◌, Bool, List, Option, refl}
use Rattle.ufs_base.specs.Images.{Image}
use Rattle.ufs_disk.specs.Disk.{State, seen}
use Rattle.ufs_disk.specs.Moments.{Moments, reads}

-- A source: the bytes that it had left and has left, where it is visible, and its counts of faults before and now.
pub record Reading : Type 0 where
  pub left : Option (List ℕ)
  pub rest : Option (List ℕ)
  pub before : ℕ
  pub now : ℕ

-- A sink: the bytes that it held and holds, where it is visible, and its counts of faults before and now.
pub record Writing : Type 0 where
  pub held : Option (List ℕ)
  pub holds : Option (List ℕ)
  pub before : ℕ
  pub now : ℕ

-- A disk: whether it is visible, how many sectors it has, its state before and what that reads as, and its counts of
-- faults before and now.
pub record Formatting : Type 0 where
  pub visible : Bool
  pub sectors : ℕ
  pub state : State
  pub image : Image
  pub read : image ≡ seen state
  pub before : ℕ
  pub now : ℕ

-- of a source, by what is seen of it
abbrev pub reading : {S : Type 0} → (S → Option (List ℕ)) → (S → ℕ) → S → S → Reading
reading left faults old new = record { left = left old; rest = left new; before = faults old; now = faults new }

-- of a sink
abbrev pub writing : {K : Type 0} → (K → Option (List ℕ)) → (K → ℕ) → K → K → Writing
writing held faults old new = record { held = held old; holds = held new; before = faults old; now = faults new }

-- of a disk
abbrev pub formatting : {D : Type 0} → Bool → (D → ℕ) → (D → Moments) → (D → ℕ) → D → D → Formatting
formatting visible size moments faults old new = record { visible = visible; sectors = size old; state = (moments old).state; image = reads (moments old); read = refl; before = faults old; now = faults new }

-- A disk from what it was to what it is: whether it is visible and keeps its moments, its sectors, its moments
-- and its counts of faults before and now.
pub record Course (D : Type 0) : Type 0 where
  pub visible : Bool
  pub keeps : Bool
  pub sectors : ℕ
  pub sectors_now : ℕ
  pub old : D
  pub new : D
  pub from : Moments
  pub to : Moments
  pub before : ℕ
  pub now : ℕ

abbrev pub course : {D : Type 0} → Bool → Bool → (D → ℕ) → (D → Moments) → (D → ℕ) → D → D → Course D
course visible keeps size moments faults old new = record { visible = visible; keeps = keeps; sectors = size old; sectors_now = size new; old = old; new = new; from = moments old; to = moments new; before = faults old; now = faults new }

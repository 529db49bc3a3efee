-- Two legs whose labels were read, once they were there for good.
use Rattle.std.specs.Prelude.{◌≡◌, ℕ, if◌then◌else◌, nat_lt}
use Rattle.ufs_base.specs.Faults.{raised}
use Rattle.ufs_base.specs.Images.{Image}
use Rattle.ufs_disk.specs.Disk.{State, IsSettled, seen}
use Rattle.ufs_mirror.specs.Labels.{generation}
use Rattle.ufs_mirror.specs.declared.legs.Picks.{Picks}
use Rattle.ufs_mirror.specs.declared.legs.Picks.TheVariants.{Either, First, Second}

-- nothing is pending on either, and these are their generations
pub record AreReady (size one other : ℕ) (first second : State) : Type 0 where
  pub first_settled : IsSettled first
  pub second_settled : IsSettled second
  pub first_says : generation (seen first size) ≡ one
  pub second_says : generation (seen second size) ≡ other

-- of two numbers
abbrev pub greater : ℕ → ℕ → ℕ
greater one other = if nat_lt one other then other else one

-- both have a label with this generation
pub record HaveLabel (size number : ℕ) (first second : Image) : Type 0 where
  pub first_says : generation (first size) ≡ number
  pub second_says : generation (second size) ≡ number

-- a leg that isn't live failed, once, and a live one passed each call
abbrev pub AreLive : Picks → ℕ → ℕ → ℕ → ℕ → Type 0
AreLive Either first first_now second second_now = (first_now ≡ first) × (second_now ≡ second)
AreLive First first first_now second second_now = (first_now ≡ first) × (second_now ≡ raised second)
AreLive Second first first_now second second_now = (first_now ≡ raised first) × (second_now ≡ second)

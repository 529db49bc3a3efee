-- What stands in the labels of two legs, at a moment of a mirror with a generation.
use Rattle.std.specs.Prelude.{◌≡◌, ◌≤◌, ◌<◌, ℕ, Bool, false, List}
use Rattle.ufs_base.specs.Images.{Image}
use Rattle.ufs_disk.specs.Disk.{State, IsAmong, Leaves, possible, seen}
use Rattle.ufs_mirror.specs.Labels.{generation}
use Rattle.ufs_mirror.specs.Pairs.{Pair, state_of}
use Rattle.ufs_mirror.specs.declared.legs.Picks.TheVariants.{Either, First, Second}

-- whatever a crash leaves there, its generation has P
abbrev pub Says : ℕ → (ℕ → Type 0) → State → Type 0
Says size P state = (bytes : List ℕ) → IsAmong (possible (state size)) bytes → P (generation bytes)

-- A leg that alone may be picked has the generation for good, and the other a lesser one, or the same where the tie is lost.
pub record IsLabelled (size number : ℕ) (pair : Pair) : Type 0 where
  pub begun : (pair.picks ≡ Either → ⊥) → 0 < number
  pub either_first : pair.picks ≡ Either → Says size (λ n. n ≤ number) pair.first
  pub either_second : pair.picks ≡ Either → Says size (λ n. n ≤ number) pair.second
  pub first_picked : pair.picks ≡ First → Says size (λ n. number ≤ n) pair.first
  pub second_left : pair.picks ≡ First → Says size (λ n. n ≤ number) pair.second
  pub second_picked : pair.picks ≡ Second → Says size (λ n. number ≤ n) pair.second
  pub first_left : pair.picks ≡ Second → Says size (λ n. n < number) pair.first

-- both legs read alike, but for their labels
abbrev pub IsAlike : ℕ → Pair → Type 0
IsAlike size pair = (sector : ℕ) → sector < size → seen pair.first sector ≡ seen pair.second sector

-- a moment of a mirror at which a crash leaves it only what has P
pub record IsMoment (size number : ℕ) (P : Image → Type 0) (pair : Pair) : Type 0 where
  pub leaves : Leaves P (state_of size pair)
  pub labelled : IsLabelled size number pair

-- What a mirror with this generation keeps. One that has stopped keeps no legs alike.
pub record IsFit (size number : ℕ) (stopped : Bool) (pair : Pair) : Type 0 where
  pub labelled : IsLabelled size number pair
  pub alike : stopped ≡ false → pair.picks ≡ Either → IsAlike size pair

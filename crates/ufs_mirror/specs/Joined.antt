-- How the labels go on when two legs are joined.
use Rattle.std.specs.Prelude.{◌≡◌, ◌⊎◌, ◌≤◌, ◌<◌, ◌+◌, ◌-◌, ◌^◌, ℕ, if◌then◌else◌, nat_lt}
use Rattle.ufs_base.specs.Faults.{raised}
use Rattle.ufs_base.specs.Images.{Image}
use Rattle.ufs_disk.specs.Disk.{IsSettled, Leaves, seen}
use Rattle.ufs_mirror.specs.Labels.{generation}
use Rattle.ufs_mirror.specs.Labelled.{IsLabelled}
use Rattle.ufs_mirror.specs.Opens.{OpensRight}
use Rattle.ufs_mirror.specs.Pairs.{Pair, state_of}
use Rattle.ufs_mirror.specs.declared.fault.MirrorFault.{MirrorFault}
use Rattle.ufs_mirror.specs.declared.fault.MirrorFault.TheVariants.{Device}
use Rattle.ufs_mirror.specs.declared.legs.Picks.{Picks}
use Rattle.ufs_mirror.specs.declared.legs.Picks.TheVariants.{Either, First, Second}

-- The generation that both legs get. They begin anew once half of all numbers are used up, so they never run out.
abbrev pub next_generation : ℕ → ℕ
next_generation number = if nat_lt number (2 ^ 63) then number + 1 else 1

-- the first leg's label may say this number, and the second's
pub record FirstMaySay (bound : ℕ) (picks : Picks) (number : ℕ) : Type 0 where
  pub either : picks ≡ Either → number ≤ bound
  pub first : picks ≡ First → bound ≤ number
  pub second : picks ≡ Second → number < bound

pub record SecondMaySay (bound : ℕ) (picks : Picks) (number : ℕ) : Type 0 where
  pub either : picks ≡ Either → number ≤ bound
  pub first : picks ≡ First → number ≤ bound
  pub second : picks ≡ Second → bound ≤ number

-- a moment at which the mirror has only what has P, and whatever pair the legs leave opens to what it has
pub record IsCalm (size : ℕ) (P : Image → Type 0) (pair : Pair) : Type 0 where
  pub leaves : Leaves P (state_of size pair)
  pub opens : OpensRight size pair

-- what a first leg was that alone may be picked, and its label has the generation for good
pub record IsFirstAt (size number : ℕ) (pair : Pair) : Type 0 where
  pub labelled : IsLabelled size number pair
  pub settled : IsSettled pair.first
  pub says : generation (seen pair.first size) ≡ number

pub record IsSecondAt (size number : ℕ) (pair : Pair) : Type 0 where
  pub labelled : IsLabelled size number pair
  pub settled : IsSettled pair.second
  pub says : generation (seen pair.second size) ≡ number

-- the leg that was picked passed each call, and the other too where both are live; else it failed once
pub record Goes (Both : Type 0) (one one_now other other_now : ℕ) : Type 0 where
  pub picked : one_now ≡ one
  pub passed : Both → other_now ≡ other
  pub failed : (Both → ⊥) → other_now ≡ raised other

-- The leg that was picked failed, or the other one where no generation was left that is greater.
abbrev pub IsLegFault : ℕ → ℕ → ℕ → ℕ → ℕ → MirrorFault → Type 0
IsLegFault number one one_now other other_now fault =
    ((one_now ≡ raised one) × (fault ≡ Device one_now))
    ⊎ ((number ≡ 2 ^ 64 - 1) × (one_now ≡ one) × (other_now ≡ raised other) × (fault ≡ Device other_now))

-- Two proofs that states are equal are equal, and so are two proofs that a state is whole.
use Rattle.std.specs.Prelude.{◌≡◌, ℕ, IsTrue, false}
use Rattle.std.proofs.Props.{props}
use Rattle.ufs_disk.specs.Disk.{State, IsWhole}

pub same_state_prop : (f g : State) → IsProp (f ≡ g)
same_state_prop f g = hlevel props

pub whole_prop : (size : ℕ) (state : State) → IsProp (IsWhole size state)
whole_prop size state = hlevel props

-- a disk that isn't visible and doesn't keep
pub untrue : IsTrue false → ⊥
untrue is = cc

-- How the counts of faults of two legs go on from those that they came with.
use Rattle.std.specs.Prelude.{◌≡◌, ◌≤◌, ℕ, Bool, IsTrue, []}
use Rattle.std.proofs.Props.{props}
use Rattle.ufs_base.specs.Faults.{raised}
use Rattle.ufs_mirror.specs.Failing.{HaveGrown}
use Rattle.ufs_disk.specs.Moments.{Moments}
use Rattle.ufs_mirror.specs.Pairs.{Pairs, nothing, pairs_of}
use Rattle.ufs_mirror.specs.declared.legs.Picks.{Picks}
use Rattle.ufs_mirror.specs.declared.legs.Picks.TheVariants.{Either, First, Second}

-- A call of the leg failed since: its count has risen, or stands at its type's end.
abbrev pub HasFailed : ℕ → ℕ → Type 0
HasFailed before now = raised before ≤ now

-- A mirror lets a leg go only where it failed, and answers a fault only where each of the two has.
pub record HaveCounted (first second : ℕ) (picks : Picks) (stopped : Bool) (faults first_now second_now : ℕ) : Type 0 where
  pub first_gone : picks ≡ Second → HasFailed first first_now
  pub second_gone : picks ≡ First → HasFailed second second_now
  pub stops : IsTrue stopped → HasFailed first first_now × HasFailed second second_now
  pub failed : (faults ≡ 0 → ⊥) → HasFailed first first_now × HasFailed second second_now
  pub grown : HaveGrown first first_now second second_now

pub counted_prop : (first second : ℕ) (picks : Picks) (stopped : Bool) (faults first_now second_now : ℕ) → IsProp (HaveCounted first second picks stopped faults first_now second_now)
counted_prop first second picks stopped faults first_now second_now = hlevel props

-- of no legs
abbrev no_moments : Moments
no_moments = record { earlier = []; state = λ sector. nothing }

abbrev pub no_pairs : Pairs
no_pairs = pairs_of [] (record { first = no_moments; second = no_moments; picks = Either })

-- How the legs' counts of faults go on.
use Rattle.std.proofs.Common.{◌≡◌, ◌≤◌, ◌+◌, ◌-◌, ◌^◌, ℕ, Bool, true, false, refl, ap, subst, arith}
use Rattle.std.specs.Prelude.{min}
use Rattle.ufs_base.specs.Faults.{raised}
use Rattle.ufs_mirror.specs.Calls.{Counts}
use Rattle.ufs_mirror.specs.Failing.{HaveGrown}
use Rattle.ufs_mirror.proofs.Views.{by_bool}

pub grown_same : (before now : ℕ) → now ≡ before → min before (2 ^ 64 - 1) ≤ now
grown_same before now is = omega (arith, is)

pub grown_raised : (before now : ℕ) → now ≡ raised before → min before (2 ^ 64 - 1) ≤ now
grown_raised before now is = let by : now ≡ min (before + 1) (2 ^ 64 - 1) = is in omega (arith, by)

pub grown_on : (before mid now : ℕ) → min before (2 ^ 64 - 1) ≤ mid → min mid (2 ^ 64 - 1) ≤ now → min before (2 ^ 64 - 1) ≤ now
grown_on before mid now one other = omega (arith, one, other)

-- by one call
pub grown_by : (before now : ℕ) (done : Bool) → Counts before now done → min before (2 ^ 64 - 1) ≤ now
grown_by before now done counts = by_bool done (λ is. grown_same before now (counts.passed is)) (λ is. grown_raised before now (counts.failed is))

-- by a call of the one leg, and of the other
pub first_calls : (a a1 b b1 : ℕ) (done : Bool) → Counts a a1 done → b1 ≡ b → HaveGrown a a1 b b1
first_calls a a1 b b1 done counts same = (grown_by a a1 done counts, grown_same b b1 same)

pub second_calls : (a a1 b b1 : ℕ) (done : Bool) → a1 ≡ a → Counts b b1 done → HaveGrown a a1 b b1
second_calls a a1 b b1 done same counts = (grown_same a a1 same, grown_by b b1 done counts)

pub none_calls : (a a1 b b1 : ℕ) → a1 ≡ a → b1 ≡ b → HaveGrown a a1 b b1
none_calls a a1 b b1 one other = (grown_same a a1 one, grown_same b b1 other)

pub calls_on : (a a1 a2 b b1 b2 : ℕ) → HaveGrown a a1 b b1 → HaveGrown a1 a2 b1 b2 → HaveGrown a a2 b b2
calls_on a a1 a2 b b1 b2 one other = (grown_on a a1 a2 one.0 other.0, grown_on b b1 b2 one.1 other.1)

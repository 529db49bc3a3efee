-- Which legs fail where a mirror does, and when one is let go.
use Rattle.std.specs.Prelude.{◌≡◌, ◌≤◌, ◌-◌, ◌^◌, ℕ, min}
use Rattle.ufs_base.specs.Faults.{raised}
use Rattle.ufs_mirror.specs.declared.legs.Picks.{Picks}
use Rattle.ufs_mirror.specs.declared.legs.Picks.TheVariants.{Either, First, Second}

-- no leg's count of faults fell
abbrev pub HaveGrown : ℕ → ℕ → ℕ → ℕ → Type 0
HaveGrown first first_now second second_now = (min first (2 ^ 64 - 1) ≤ first_now) × (min second (2 ^ 64 - 1) ≤ second_now)

-- each leg that was live failed, once
pub record FailedAll (picks : Picks) (first first_now second second_now : ℕ) : Type 0 where
  pub first_failed : (picks ≡ Second → ⊥) → first_now ≡ raised first
  pub second_failed : (picks ≡ First → ⊥) → second_now ≡ raised second

-- A leg is let go only where it failed, and stays so. While both are live, neither failed.
pub record LetsGo (now picks : Picks) (first first_now second second_now : ℕ) : Type 0 where
  pub first_stays : picks ≡ First → now ≡ First
  pub second_stays : picks ≡ Second → now ≡ Second
  pub first_gone : picks ≡ Either → now ≡ Second → first_now ≡ raised first
  pub second_gone : picks ≡ Either → now ≡ First → second_now ≡ raised second
  pub both : now ≡ Either → (first_now ≡ first) × (second_now ≡ second)

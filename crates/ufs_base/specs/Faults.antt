-- How a count of faults goes on over a call. It rises by one at a call that fails, and stands still at its type's end.
use Rattle.std.specs.Prelude.{ℕ, ◌≡◌, ◌+◌, ◌-◌, ◌^◌, min, OnErr, OnOk, Result}

-- a count after one more fault
abbrev pub raised : ℕ → ℕ
raised count = min (count + 1) (2 ^ 64 - 1)

-- a call that failed raised the count by one, and a call that passed left it as it was
pub record HasCause {T E : Type 0} (before now : ℕ) (result : Result T E) : Type 0 where
  pub failed : OnErr result (now ≡ raised before)
  pub passed : OnOk result (now ≡ before)

-- One call failed: the count rose by one, to this number.
pub record RoseTo (before now fault : ℕ) : Type 0 where
  pub rose : now ≡ raised before
  pub number : fault ≡ now

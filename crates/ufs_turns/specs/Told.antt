-- The faults of the device that are told in a turn.
use Rattle.std.specs.Prelude.{ℕ, ◌-◌, ◌^◌, cond, leb, List, [], ◌∷◌, Option, Some, None}

-- The fault that a refusal tells, if it is one of this call. The last number of the device's count may be told twice, so it is no
-- fault's.
abbrev pub fault_told : Option ℕ → Option ℕ
fault_told None = None
fault_told (Some n) = cond (leb (2 ^ 64 - 1) n) None (Some n)

abbrev pub told_list : Option ℕ → List ℕ
told_list None = []
told_list (Some n) = n ∷ []

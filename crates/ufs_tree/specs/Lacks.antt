-- For want of what a call gives up.
use Rattle.std.specs.Prelude.{ℕ, ◌≡◌, ◌-◌, ◌^◌, ⊤}
use Rattle.ufs_base.specs.declared.lack.Lack.{Lack}
use Rattle.ufs_base.specs.declared.lack.Lack.TheVariants.{Memory, AtEnd, Unsound, Told}

-- A count isn't raised: for want of memory, or since it is the last one.
abbrev pub IsLackOfCount : ℕ → Lack → Type 0
IsLackOfCount count (Memory refused) = ⊤
IsLackOfCount count AtEnd = count ≡ 2 ^ 64 - 1
IsLackOfCount count Unsound = ⊥
IsLackOfCount count Told = ⊥

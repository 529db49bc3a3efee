-- For want of what no file more can leave the primary.
use Rattle.std.specs.Prelude.{ℕ, ◌≡◌, ◌-◌, ◌^◌, ⊤}
use Rattle.ufs_base.specs.declared.lack.Lack.{Lack}
use Rattle.ufs_base.specs.declared.lack.Lack.TheVariants.{Memory, AtEnd, Unsound, Told}
use Rattle.ufs_owner.specs.Owners.{Files, count_out}

-- of memory, or of a number that counts them all
abbrev pub IsLackOut : Files → Lack → Type 0
IsLackOut files (Memory refused) = ⊤
IsLackOut files AtEnd = count_out files ≡ 2 ^ 32 - 1
IsLackOut files Unsound = ⊥
IsLackOut files Told = ⊥

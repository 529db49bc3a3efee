-- Where the numbers of a store end.
use Rattle.std.specs.Prelude.{◌≡◌, ◌⊎◌, ◌-◌, ◌^◌, ⊤}
use Rattle.ufs_base.specs.declared.lack.Lack.{Lack}
use Rattle.ufs_base.specs.declared.lack.Lack.TheVariants.{Memory, AtEnd, Unsound, Told}
use Rattle.ufs_store.specs.State.{StoreState}

-- It is memory.
abbrev pub IsMemory : Lack → Type 0
IsMemory (Memory refused) = ⊤
IsMemory _ = ⊥

-- For want of this a store refuses a call: of memory, or of a number behind its last one, for a commit or for an epoch.
abbrev pub IsLackOf : StoreState → Lack → Type 0
IsLackOf s (Memory refused) = ⊤
IsLackOf s AtEnd = (s.journal.number ≡ 2 ^ 64 - 1) ⊎ (s.superblock.epoch ≡ 2 ^ 64 - 1)
IsLackOf s Unsound = ⊥
IsLackOf s Told = ⊥

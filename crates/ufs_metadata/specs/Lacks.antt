-- What whoever reads an image may lack.
use Rattle.ufs_base.specs.declared.lack.Lack.{Lack}
use Rattle.ufs_base.specs.declared.lack.Lack.TheVariants.{Memory, AtEnd}

-- It is memory, or a number for one more.
abbrev pub IsOfNumbers : Lack → Type 0
IsOfNumbers (Memory memory) = Unit {0}
IsOfNumbers AtEnd = Unit {0}
IsOfNumbers _ = ⊥

-- It is memory.
abbrev pub IsOfMemory : Lack → Type 0
IsOfMemory (Memory memory) = Unit {0}
IsOfMemory _ = ⊥

-- Lists of records by sector.
use Rattle.std.specs.Prelude.{ℕ, ◌-◌, List, [], ◌∷◌, ◌++◌, length, take, ◌==◌, if◌then◌else◌, Option, None, Some, Vec, vec_capacity}
use Rattle.std.specs.declared.alloc.Global.{Global}
use Rattle.std.specs.Ordering.{nat_cmp}
use Rattle.std.specs.BTreeMap.{get}
use Rattle.ufs_overlay.specs.declared.lists.Numbered.{Numbered}
use Rattle.ufs_overlay.specs.declared.lists.SectorLists.{SectorLists}

-- the records in a list, where there is one
abbrev pub items_of : Option (Vec Numbered Global) → List Numbered
items_of None = []
items_of (Some list) = list.items

-- the records of a sector
abbrev pub lists_of : SectorLists → ℕ → List Numbered
lists_of l sector = items_of (get nat_cmp l.lists sector)

-- how many records a list has room for, where there is one
abbrev pub capacity_of : Option (Vec Numbered Global) → ℕ
capacity_of None = 0
capacity_of (Some list) = vec_capacity list

-- how many records the list of a sector has room for
abbrev pub room_in : SectorLists → ℕ → ℕ
room_in l sector = capacity_of (get nat_cmp l.lists sector)

-- with one record more behind those of a sector
abbrev pub with_more : ℕ → Numbered → (ℕ → List Numbered) → ℕ → List Numbered
with_more sector n lists k = if k == sector then lists k ++ n ∷ [] else lists k

-- without the last record of a sector
abbrev pub without_last : ℕ → (ℕ → List Numbered) → ℕ → List Numbered
without_last sector lists k = if k == sector then take (length (lists k) - 1) (lists k) else lists k

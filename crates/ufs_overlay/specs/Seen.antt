-- What contracts see of an overlay.
use Rattle.std.specs.Prelude.{ℕ, List}
use Rattle.ufs_overlay.specs.Lists.{lists_of, room_in}
use Rattle.ufs_overlay.specs.Over.{IsOf}
use Rattle.ufs_layout.specs.declared.geometry.Geometry.{Geometry}
use Rattle.ufs_layout.specs.declared.records.Committed.{Committed}
use Rattle.ufs_overlay.specs.declared.lists.Numbered.{Numbered}
use Rattle.ufs_overlay.specs.declared.overlay.Overlay.{Overlay}

abbrev pub geometry_of : Overlay → Geometry
geometry_of overlay = overlay.geometry

-- the records of a sector
abbrev pub recorded : Overlay → ℕ → List Numbered
recorded overlay = lists_of overlay.lists

-- It has these transactions, added in this order.
abbrev pub HasAdded : Overlay → List Committed → Type 0
HasAdded overlay transactions = IsOf overlay.geometry (lists_of overlay.lists) transactions

-- How many records of a sector it has memory for.
abbrev pub room_for : Overlay → ℕ → ℕ
room_for overlay = room_in overlay.lists

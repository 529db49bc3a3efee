-- Whether records may be committed to a disk of this form, and why they aren't.
use Rattle.std.specs.Prelude.{ℕ, ◌≡◌, ◌⊎◌, ◌&&◌, ⊤, List, Bool, false, nat_lt}
use Rattle.std.specs.List.{list_all}
use Rattle.ufs_base.specs.declared.lack.Lack.{Lack}
use Rattle.ufs_base.specs.declared.lack.Lack.TheVariants.{Memory, AtEnd, Unsound, Told}
use Rattle.ufs_image.specs.Fold.{is_in_range}
use Rattle.ufs_layout.specs.Filled.{sector_count_of}
use Rattle.ufs_layout.specs.declared.geometry.Geometry.{Geometry}
use Rattle.ufs_layout.specs.declared.records.LogRecord.{LogRecord}
use Rattle.ufs_store.specs.Ends.{IsLackOf}
use Rattle.ufs_store.specs.State.{StoreState, geometry_of_store}

-- Each record is in range, and an empty journal has room for them all.
abbrev pub fit : Geometry → List LogRecord → Bool
fit g records = list_all (is_in_range g) records && nat_lt (sector_count_of records) g.journal

-- For want of this they aren't committed: what a store lacks for it, or no disk of this form takes them.
abbrev pub IsLackOfCommit : StoreState → List LogRecord → Lack → Type 0
IsLackOfCommit s records (Memory refused) = ⊤
IsLackOfCommit s records AtEnd = IsLackOf s AtEnd ⊎ (fit (geometry_of_store s) records ≡ false)
IsLackOfCommit s records Unsound = ⊥
IsLackOfCommit s records Told = ⊥

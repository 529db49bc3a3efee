-- Which transactions an overlay has, and what it makes of the home sectors.
use Rattle.std.specs.Prelude.{ℕ, ◌≡◌, ◌≢◌, ◌⊎◌, List, [], ◌∷◌, map, filter, flat_map, Bool, true, ◌==◌, ◌&&◌, nat_lt, IsTrue}
use Rattle.std.specs.List.{list_all}
use Rattle.ufs_base.specs.Images.{Image}
use Rattle.ufs_layout.specs.Areas.{sector_of_inode}
use Rattle.ufs_layout.specs.Records.{is_record}
use Rattle.ufs_image.specs.Fold.{is_in_range, folded}
use Rattle.ufs_disk.specs.Disk.{State, IsImage, seen}
use Rattle.ufs_overlay.specs.declared.lists.Numbered.{Numbered}
use Rattle.ufs_layout.specs.declared.geometry.Geometry.{Geometry}
use Rattle.ufs_layout.specs.declared.records.LogRecord.{LogRecord}
use Rattle.ufs_layout.specs.declared.records.LogRecord.TheVariants.{Delta, Place, Free}
use Rattle.ufs_layout.specs.declared.records.Committed.{Committed}

-- the sector that a record changes
abbrev pub sector_of_record : Geometry → LogRecord → ℕ
sector_of_record g (Delta inode kind size keep extents) = sector_of_inode g inode
sector_of_record g (Place sector slot dentry) = sector
sector_of_record g (Free inode) = sector_of_inode g inode

-- The record is in range and changes this sector.
abbrev pub is_of : Geometry → ℕ → LogRecord → Bool
is_of g sector r = is_in_range g r && sector_of_record g r == sector

-- those of this sector among the records of a transaction, with its number
abbrev pub numbered_of : Geometry → ℕ → ℕ → List LogRecord → List Numbered
numbered_of g sector number records = map (λ r. record { number = number; change = r }) (filter (is_of g sector) records)

-- the records of this sector in some transactions, in order
abbrev pub records_of : Geometry → ℕ → List Committed → List Numbered
records_of g sector transactions = flat_map (λ (c : Committed). numbered_of g sector c.number c.records) transactions

-- each record of a sector is on its form and changes this sector
abbrev pub AreOf : Geometry → ℕ → List Numbered → Type 0
AreOf g sector numbered = IsTrue (list_all (λ (n : Numbered). is_record n.change && is_of g sector n.change) numbered)

-- Commit numbers rise, and are above this one.
abbrev pub rise_above : ℕ → List Committed → Bool
rise_above least [] = true
rise_above least (c ∷ cs) = nat_lt least c.number && rise_above c.number cs

-- The lists have the records of these transactions, whose numbers rise from 1 on.
pub record IsOf (g : Geometry) (lists : ℕ → List Numbered) (transactions : List Committed) : Type 0 where
  pub rising : IsTrue (rise_above 0 transactions)
  pub each : (sector : ℕ) → lists sector ≡ records_of g sector transactions

-- Some record of the transactions changes the sector.
abbrev pub IsTouched : Geometry → List Committed → ℕ → Type 0
IsTouched g transactions sector = records_of g sector transactions ≢ []

-- Each touched sector is settled: a crash leaves in it what a read gives.
abbrev pub IsHomeSettled : Geometry → List Committed → State → Type 0
IsHomeSettled g transactions state = (image : Image) → IsImage state image → (sector : ℕ) → IsTouched g transactions sector → image sector ≡ seen state sector

-- each sector is as it was, or as the transactions leave it
abbrev pub IsMixedHome : Geometry → List Committed → Image → Image → Type 0
IsMixedHome g transactions before image = (sector : ℕ) → (image sector ≡ before sector) ⊎ (image sector ≡ folded g transactions before sector)

-- an image of the state, with some home sectors written
pub record IsHomeWritten (g : Geometry) (transactions : List Committed) (state : State) (image : Image) : Type 0 where
  pub before : Image
  pub left : IsImage state before
  pub mixed : IsMixedHome g transactions before image

-- an image that folds to what an image of the state folds to
pub record FoldsAlike (g : Geometry) (transactions : List Committed) (state : State) (image : Image) : Type 0 where
  pub before : Image
  pub left : IsImage state before
  pub alike : (sector : ℕ) → folded g transactions image sector ≡ folded g transactions before sector

-- an image of the state, in which this sector may be written, if a record changes it
pub record IsStepWritten (g : Geometry) (transactions : List Committed) (sector : ℕ) (state : State) (image : Image) : Type 0 where
  pub before : Image
  pub left : IsImage state before
  pub each : (k : ℕ) → (image k ≡ before k) ⊎ ((k ≡ sector) × (IsTouched g transactions sector × (image sector ≡ folded g transactions (seen state) sector)))

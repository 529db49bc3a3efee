-- Images: what each sector of a disk has.
use Rattle.std.specs.Prelude.{ℕ, ◌≡◌, ◌<◌, List, length, slice_index}
use Rattle.ufs_base.specs.declared.sizes.TheConstants.{SECTOR}

-- Each number of the list is a byte.
abbrev pub IsBytes : List ℕ → Type 0
IsBytes bytes = (k : ℕ) → slice_index bytes k < 256

-- It has as many bytes as a sector.
pub record IsSector (bytes : List ℕ) : Type 0 where
  pub sized : length bytes ≡ SECTOR
  pub in_range : IsBytes bytes

-- what each sector has
abbrev pub Image : Type 0
Image = ℕ → List ℕ

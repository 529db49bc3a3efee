-- Why a geometry is refused on a disk of so many sectors.
use Rattle.std.specs.Prelude.{ℕ, nat_lt, Option}
use Rattle.std.specs.Option.{option_map}
use Rattle.ufs_base.specs.Choices.{first_of, refused_if}
use Rattle.ufs_layout.specs.Areas.{geometry_refusal, refusal_number, sector_count}
use Rattle.ufs_layout.specs.declared.geometry.Geometry.{Geometry}
use Rattle.ufs_image.specs.Volume.{Refusal, BadGeometry}

-- out of its limits, or too large for the disk
abbrev pub size_refusal : ℕ → Geometry → Option Refusal
size_refusal sectors g = first_of (option_map (λ bad. BadGeometry (refusal_number bad)) (geometry_refusal g)) (refused_if (nat_lt sectors (sector_count g)) (BadGeometry 5))

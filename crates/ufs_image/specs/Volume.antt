-- The image with its committed records folded, or why there is none.
use Rattle.std.specs.Prelude.{ℕ, List, take, Bool, ◌==◌, ◌||◌, not, nat_lt, Option, Some, None, is_none, option_map, Result, Ok, Err}
use Rattle.std.specs.Str.{bytes_eq}
use Rattle.ufs_base.specs.Choices.{first_of, refused_if}
use Rattle.ufs_layout.specs.Areas.{geometry_refusal, refusal_number, sector_count}
use Rattle.ufs_layout.specs.Superblock.{magic, super_fields, super_of, geometry_of}
use Rattle.ufs_base.specs.Images.{Image}
use Rattle.ufs_image.specs.Journal.{committed}
use Rattle.ufs_image.specs.BadSectors.{bad_sector}
use Rattle.ufs_image.specs.Fold.{folded}
use Rattle.ufs_image.specs.Damage.{Damage, damage}
use Rattle.ufs_layout.specs.declared.geometry.Geometry.{Geometry}
use Rattle.ufs_layout.specs.declared.superblock.Super.{Super}

-- why an image stands for no tree
pub data Refusal : Type 0 where
  NoSuperblock : Refusal
  BadVersion : (version : ℕ) → Refusal
  BadGeometry : (number : ℕ) → Refusal
  BadRecord : (sector : ℕ) → Refusal
  BadTree : (inode : ℕ) → Refusal

-- what the superblock's fields have
abbrev pub superblock_of : Image → Super
superblock_of image = super_fields (image 0)

-- ---- the superblock

abbrev pub lacks_magic : ℕ → Image → Bool
lacks_magic sectors image = sectors == 0 || not (bytes_eq (take 8 (image 0)) magic)

abbrev pub has_other_version : Image → Bool
has_other_version image = not ((superblock_of image).version == 1)

abbrev pub is_off_form : Image → Bool
is_off_form image = is_none (super_of 1 (image 0))

abbrev pub bad_geometry : Image → Option Refusal
bad_geometry image = option_map (λ bad. BadGeometry (refusal_number bad)) (geometry_refusal (geometry_of (superblock_of image)))

-- The disk is smaller than the geometry.
abbrev pub is_too_small : ℕ → Image → Bool
is_too_small sectors image = nat_lt sectors (sector_count (geometry_of (superblock_of image)))

-- the first reason why the superblock is refused
abbrev pub superblock_refusal : ℕ → Image → Option Refusal
superblock_refusal sectors image =
    first_of (refused_if (lacks_magic sectors image) NoSuperblock)
    (first_of (refused_if (has_other_version image) (BadVersion (superblock_of image).version))
    (first_of (refused_if (is_off_form image) NoSuperblock)
    (first_of (bad_geometry image)
    (refused_if (is_too_small sectors image) (BadGeometry 5)))))

-- ---- the folded image

pub record Volume : Type 0 where
  pub superblock : Super
  pub geometry : Geometry
  -- with all committed records
  pub image : Image

abbrev pub volume_of : Super → Image → Volume
volume_of s image = let g = geometry_of s in record { superblock = s; geometry = g; image = folded g (committed g s.epoch image) image }

-- by the lowest sector of the journal that is off
abbrev pub by_journal : Image → Option ℕ → Result Volume Refusal
by_journal image None = Ok (volume_of (superblock_of image) image)
by_journal image (Some sector) = Err (BadRecord sector)

-- by what the superblock is refused for
abbrev pub by_superblock : Image → Option Refusal → Result Volume Refusal
by_superblock image None = by_journal image (bad_sector (geometry_of (superblock_of image)) (superblock_of image) image)
by_superblock image (Some refusal) = Err refusal

-- the superblock first, and then the journal
abbrev pub volume : ℕ → Image → Result Volume Refusal
volume sectors image = by_superblock image (superblock_refusal sectors image)

-- the list of damage of a folded image
abbrev pub damage_of : Volume → List Damage
damage_of v = damage v.superblock.clean v.geometry v.image

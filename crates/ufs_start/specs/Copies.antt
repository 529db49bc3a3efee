-- A copy of what the names of the image on a disk use.
use Rattle.std.specs.Prelude.{ℕ, ◌≡◌, ◌⊎◌, ◌<◌, length, min, List, Bool, true, false, Option, Some, None, Result, Ok, Err}
use Rattle.std.specs.Option.{option_map}
use Rattle.std.specs.FinMap as map
use Rattle.ufs_base.specs.declared.sizes.TheConstants.{SECTORS_PER_BLOCK}
use Rattle.ufs_base.specs.Images as images
use Rattle.ufs_hand.specs.declared.rule.Parts.{Parts}
use Rattle.ufs_image.specs.Agree.{AgreeOn, IsMetadata, IsOfDir}
use Rattle.ufs_image.specs.Catalog.{catalog_at}
use Rattle.ufs_image.specs.Opens.{ImageTree, NodeBytes, opens}
use Rattle.ufs_image.specs.Volume.{BadRecord, Refusal, Volume, superblock_of, superblock_refusal, volume}
use Rattle.ufs_layout.specs.Areas.{sector_count}
use Rattle.ufs_layout.specs.Superblock.{geometry_of}
use Rattle.ufs_layout.specs.declared.geometry.Geometry.{Geometry}
use Rattle.ufs_start.specs.Begun.{IsBegun, session_start}
use Rattle.ufs_start.specs.Refused.{TellsNoStart}
use Rattle.ufs_start.specs.declared.fault.StartFault.{StartFault}
use Rattle.ufs_start.specs.declared.parts.Start.{Start}

-- those of one block where the superblock is refused
abbrev pub taken_by : Option Refusal → (sectors own : ℕ) → ℕ
taken_by None sectors own = own
taken_by (Some refusal) sectors own = min SECTORS_PER_BLOCK sectors

-- how many sectors of a disk of so many the image takes, by its superblock
abbrev pub sectors_taken : ℕ → images.Image → ℕ
sectors_taken sectors image = taken_by (superblock_refusal sectors image) sectors (sector_count (geometry_of (superblock_of image)))

-- what the names of a folded image use: what lies before the data area, and the blocks of directories
abbrev pub IsUsedIn : Geometry → images.Image → ℕ → Type 0
IsUsedIn g image sector = IsMetadata g sector ⊎ IsOfDir g (catalog_at g image) sector

-- what those of an image of this geometry use, by what it is taken or refused for: with a bad journal what lies before the data
-- area, without a superblock the first block
abbrev pub IsUsedBy : Geometry → Result Volume Refusal → ℕ → Type 0
IsUsedBy g (Ok v) sector = IsUsedIn g v.image sector
IsUsedBy g (Err (BadRecord bad)) sector = IsMetadata g sector
IsUsedBy g (Err refusal) sector = sector < SECTORS_PER_BLOCK

-- The names of an image of so many sectors use this one of them.
pub record IsUsed (sectors : ℕ) (image : images.Image) (sector : ℕ) : Type 0 where
  pub inside : sector < sectors
  pub used : IsUsedBy (geometry_of (superblock_of image)) (volume sectors image) sector

-- A copy has as many sectors as the image takes of a disk, and in each that its names use what the image has.
pub record IsCopyOf (copied : ℕ) (copy : images.Image) (sectors : ℕ) (image : images.Image) : Type 0 where
  pub taken : copied ≡ sectors_taken sectors copy
  pub same : AgreeOn (IsUsed copied copy) copy image
  -- the others have as many bytes
  pub sized : (sector : ℕ) → sector < copied → length (copy sector) ≡ length (image sector)

-- whether a file stands there
abbrev pub is_file : NodeBytes → Bool
is_file None = false
is_file (Some bytes) = true

-- The trees have the same paths, and at each both have a directory or both a file; its bytes may be others.
abbrev pub AreAlike : ImageTree → ImageTree → Type 0
AreAlike t u = (path : List ℕ) → option_map is_file (map.get t path) ≡ option_map is_file (map.get u path)

-- Both open to such trees, or to none for one cause.
abbrev pub AreOpenedAlike : Result ImageTree Refusal → Result ImageTree Refusal → Type 0
AreOpenedAlike (Ok t) (Ok u) = AreAlike t u
AreOpenedAlike (Err refusal) (Err other) = refusal ≡ other
AreOpenedAlike _ _ = ⊥

-- the image that a start is said of: the disk's where contracts see it, and else its copy
abbrev pub image_seen : Bool → (disk copy : images.Image) → images.Image
image_seen true disk copy = disk
image_seen false disk copy = copy

-- ---- laws

-- A copy opens as the image does, but for the bytes of files.
abbrev pub OpensAsCopied : Type 0
OpensAsCopied = (copied sectors : ℕ) (copy image : images.Image) → IsCopyOf copied copy sectors image → AreOpenedAlike (opens copied copy) (opens sectors image)

-- A server begins on the image as on a copy, with parts of a session over the image.
abbrev pub BeginsAsCopied : Type 0
BeginsAsCopied = (copied sectors : ℕ) (copy image : images.Image) (s : Start) (p : Parts) → IsCopyOf copied copy sectors image → IsBegun copied copy s → p.start ≡ session_start sectors image → IsBegun sectors image (record s { parts = p })

-- And is refused so.
abbrev pub RefusesAsCopied : Type 0
RefusesAsCopied = (copied sectors : ℕ) (copy image : images.Image) (fault : StartFault) → IsCopyOf copied copy sectors image → TellsNoStart copied copy fault → TellsNoStart sectors image fault

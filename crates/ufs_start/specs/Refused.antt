-- Why a server can't begin with an image.
use Rattle.std.specs.Prelude.{ℕ, ◌≡◌, ◌<◌, length}
use Rattle.ufs_base.specs.Images as images
use Rattle.ufs_metadata.specs.Faults.{HasFaultCause}
use Rattle.ufs_metadata.specs.declared.fault.RecoverFault.{RecoverFault}
use Rattle.ufs_metadata.specs.declared.fault.RecoverFault.TheVariants.{Lack}
use Rattle.ufs_damage.specs.Findings.{CatalogRead}
use Rattle.ufs_file.specs.Content.{block_count}
use Rattle.ufs_image.specs.Catalog.{Catalog, IsInode, catalog_at}
use Rattle.ufs_image.specs.Changes.{IsUnreached}
use Rattle.ufs_image.specs.Images.{form_at}
use Rattle.ufs_image.specs.Nodes.{blocks_of}
use Rattle.ufs_image.specs.Sound.{HasDentry}
use Rattle.ufs_image.specs.Standing.{IsVolumeOf}
use Rattle.ufs_image.specs.Volume.{Volume}
use Rattle.ufs_layout.specs.DentryForm.{DentryForm}
use Rattle.ufs_layout.specs.declared.geometry.Geometry.{Geometry}
use Rattle.ufs_layout.specs.InodeForm.{InodeForm}
use Rattle.ufs_opening.specs.Told.{TellsWhy}
use Rattle.ufs_metadata.specs.Lacks.{IsOfNumbers}
use Rattle.ufs_start.specs.Starts.{IsUndamaged}
use Rattle.ufs_start.specs.declared.fault.StartFault.{StartFault}
use Rattle.ufs_start.specs.declared.fault.StartFault.TheVariants.{Image, Unreached, Unnamed, ExtraBlocks}

-- what a fault says of the disk's count of faults
abbrev pub HasStartCause : ℕ → ℕ → StartFault → Type 0
HasStartCause before now (Image fault) = HasFaultCause before now fault
HasStartCause before now (Unreached inode) = now ≡ before
HasStartCause before now (Unnamed inode) = now ≡ before
HasStartCause before now (ExtraBlocks inode) = now ≡ before

-- Names stand in the directory of this inode, and no walk from the root meets it.
pub record IsCutOff (g : Geometry) (c : Catalog) (inode : ℕ) : Type 0 where
  pub place : ℕ
  pub dentry : DentryForm
  pub stands : HasDentry g c inode place dentry
  pub unreached : IsUnreached c inode

-- The inode is a file's, and no walk from the root meets it.
pub record IsUnnamedFile (g : Geometry) (c : Catalog) (inode : ℕ) : Type 0 where
  pub in_range : IsInode g inode
  pub file : (c.forms inode).kind ≡ 1
  pub unreached : IsUnreached c inode

-- No directory in which a name stands is cut off.
abbrev pub HasNoneCutOff : Geometry → Catalog → Type 0
HasNoneCutOff g c = (inode : ℕ) → IsCutOff g c inode → ⊥

-- The inode is such a file's, and no directory is cut off: that is told first.
abbrev pub HasUnnamedAlone : Geometry → Catalog → ℕ → Type 0
HasUnnamedAlone g c inode = IsUnnamedFile g c inode × HasNoneCutOff g c

-- It is for want of memory, or of a number.
abbrev pub IsLack : RecoverFault → Type 0
IsLack (Lack why) = IsOfNumbers why
IsLack _ = ⊥

-- Why there are no names: a directory of each image of which this was read is cut off, a file of each has no name where
-- no directory is cut off, or memory or a number is wanted.
abbrev pub IsNamesFault : Geometry → CatalogRead → StartFault → Type 0
IsNamesFault g f (Image fault) = IsLack fault
IsNamesFault g f (Unreached inode) = (image : images.Image) → IsUndamaged g image f → IsCutOff g (catalog_at g image) inode
IsNamesFault g f (Unnamed inode) = (image : images.Image) → IsUndamaged g image f → HasUnnamedAlone g (catalog_at g image) inode
IsNamesFault g f (ExtraBlocks inode) = ⊥

-- Why there is no file: it has more blocks than its size wants, or memory or a number is wanted.
abbrev pub IsRefusedFile : (ℕ → InodeForm) → StartFault → Type 0
IsRefusedFile forms (Image fault) = IsLack fault
IsRefusedFile forms (Unreached inode) = ⊥
IsRefusedFile forms (Unnamed inode) = ⊥
IsRefusedFile forms (ExtraBlocks inode) = ((forms inode).kind ≡ 1) × (block_count (forms inode).size < length (blocks_of (forms inode)))

-- The inode of the file that a fault names is such a one.
abbrev pub NamesFile : (ℕ → Type 0) → StartFault → Type 0
NamesFile these (Image fault) = Unit {0}
NamesFile these (Unreached inode) = Unit {0}
NamesFile these (Unnamed inode) = Unit {0}
NamesFile these (ExtraBlocks inode) = these inode

-- The disk stands for a tree, and this is true of its image as its committed transactions leave it.
abbrev pub HasTreeWith : ℕ → images.Image → (Volume → Type 0) → Type 0
HasTreeWith sectors disk with_it = (v : Volume) × IsVolumeOf sectors disk v (catalog_at v.geometry v.image) × with_it v

-- Why a server can't begin with this disk: it opens to no tree, a directory of it is cut off, a file of it has no name
-- where none is, or one is refused.
abbrev pub TellsNoStart : ℕ → images.Image → StartFault → Type 0
TellsNoStart sectors disk (Image fault) = TellsWhy sectors disk fault
TellsNoStart sectors disk (Unreached inode) = HasTreeWith sectors disk (λ v. IsCutOff v.geometry (catalog_at v.geometry v.image) inode)
TellsNoStart sectors disk (Unnamed inode) = HasTreeWith sectors disk (λ v. HasUnnamedAlone v.geometry (catalog_at v.geometry v.image) inode)
TellsNoStart sectors disk (ExtraBlocks inode) = HasTreeWith sectors disk (λ v. IsInode v.geometry inode × IsRefusedFile (form_at v.geometry v.image) (ExtraBlocks inode))

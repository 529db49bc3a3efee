-- What a server begins with on a disk, of what was loaded.
use Rattle.std.proofs.Common.{◌≡◌, ℕ, ◌<◌, ◌≤◌, length, arith, ◌&&◌, not, List, Bool, true, false, Option, Some, None, slice_index_or, refl, sym, ◌∙◌, subst}
use Rattle.std.specs.Prelude.{◌^◌, IfErr, Result, Ok, Err}
use Rattle.std.proofs.lemmas.Bool.{and_parts, ltb-true}
use Rattle.ufs_base.specs.Images as images
use Rattle.ufs_metadata.specs.Faults.{HasFaultCause, IsOutside}
use Rattle.ufs_metadata.specs.declared.fault.RecoverFault.{RecoverFault}
use Rattle.ufs_metadata.specs.declared.fault.RecoverFault.TheVariants.{NoSuperblock, BadVersion, BadGeometry, BadRecord, BadTree, Device, Lack}
use Rattle.ufs_damage.specs.Findings.{AreFindingsOf, CatalogRead}
use Rattle.ufs_image.specs.Catalog.{IsCatalogOf, IsInode, catalog_at}
use Rattle.ufs_image.specs.Images.{form_at}
use Rattle.ufs_image.specs.Sound.{IsSoundCatalog}
use Rattle.ufs_image.specs.Standing.{IsVolumeOf}
use Rattle.ufs_image.specs.Volume.{volume}
use Rattle.ufs_image.proofs.Depth.{has_root, root_in_range}
use Rattle.ufs_image.proofs.Found.{reached}
use Rattle.ufs_layout.specs.Areas.{IsGeometry, is_data_sector, sector_count}
use Rattle.ufs_layout.specs.declared.geometry.Geometry.{Geometry}
use Rattle.ufs_layout.specs.declared.superblock.Super.{Super}
use Rattle.ufs_model.specs.PosixTree.{PosixTree}
use Rattle.ufs_name_tree.specs.NameTable.{file_at}
use Rattle.ufs_names.specs.NamesPart.{NamesPart}
use Rattle.ufs_opening.specs.Told.{TellsWhy}
use Rattle.ufs_opening.proofs.Lengths.{folded_sized}
use Rattle.ufs_volume.specs.Volumes.{committed_in, volume_in}
use Rattle.ufs_volume.specs.declared.volume.FoldedVolume.{FoldedVolume}
use Rattle.ufs_volume.proofs.Folds.{can_fold}
use Rattle.ufs_start.specs.Begun.{catalog_under, image_under}
use Rattle.ufs_start.specs.Refused.{HasStartCause, IsLack, IsNamesFault, IsRefusedFile, NamesFile, TellsNoStart}
use Rattle.ufs_start.specs.Starts.{AreNumbersOf, AreStartNames, IsLoaded, IsUndamaged}
use Rattle.ufs_start.specs.declared.fault.StartFault.{StartFault}
use Rattle.ufs_start.specs.declared.fault.StartFault.TheVariants.{Image, Unreached, Unnamed, ExtraBlocks}

pub is_loaded : (v : FoldedVolume) (f : CatalogRead) (sectors : ℕ) (disk : images.Image) → volume sectors disk ≡ Ok (volume_in v disk) → IsCatalogOf v.superblock.geometry (image_under v.superblock disk) (catalog_under v.superblock disk)
    → IsSoundCatalog v.superblock.geometry (catalog_under v.superblock disk) → AreFindingsOf v.superblock.geometry (image_under v.superblock disk) f → IsLoaded v.superblock.geometry f sectors disk v.superblock.superblock (image_under v.superblock disk)
is_loaded v f sectors disk taken catalog sound found = record { standing = record { taken = taken; catalog = catalog; sound = sound }; found = found }

-- what is committed leaves a sector of data its length
pub sized_there : (v : FoldedVolume) (sectors : ℕ) (disk : images.Image) → volume sectors disk ≡ Ok (volume_in v disk) → sector_count v.superblock.geometry ≤ sectors → ((sector : ℕ) → sector < sectors → length (disk sector) ≡ 512)
    → (sector : ℕ) → is_data_sector v.superblock.geometry sector ≡ true → length (image_under v.superblock disk sector) ≡ 512
sized_there v sectors disk taken large sized sector within =
    let under = ltb-true sector (sector_count v.superblock.geometry) (and_parts _ _ within).1 in
    folded_sized v.superblock.geometry sector within (committed_in v disk) disk (can_fold sectors v disk taken) (sized sector (omega (arith, under, large)))

-- a file that the names tell is an inode past 0, and has its number
pub number_there : (g : Geometry) (f : CatalogRead) (sectors : ℕ) (disk : images.Image) (superblock : Super) (image : images.Image) (n : NamesPart) (numbers : List (Option ℕ)) → IsGeometry g → IsLoaded g f sectors disk superblock image → AreStartNames sectors disk g image n
    → AreNumbersOf g image numbers → (inode file : ℕ) → file_at n.tree inode ≡ Some file → (1 ≤ inode) × (slice_index_or numbers inode None ≡ Some file)
number_there g f sectors disk superblock image n numbers geometry l s are inode file e =
    let at = s.names.numbers.only inode file e in
    let sound = l.standing.sound in
    ((reached g (catalog_at g image) sound 1 at.names inode (root_in_range g (catalog_at g image) sound (has_root g geometry)) at.met).0.from_one, are.each inode file at)

-- the session's files are as many
pub few_files : (n : NamesPart) (t : PosixTree) → n.next ≡ t.next → n.next ≤ 2 ^ 30 → t.next ≤ 1073741824
few_files n t same few = omega (arith, same, few)

-- ---- faults

outside_why : (sectors : ℕ) (disk : images.Image) (fault : RecoverFault) → IsOutside fault → TellsWhy sectors disk fault
outside_why sectors disk NoSuperblock is = absurd is
outside_why sectors disk (BadVersion found) is = absurd is
outside_why sectors disk (BadGeometry number) is = absurd is
outside_why sectors disk (BadRecord sector) is = absurd is
outside_why sectors disk (BadTree inode) is = absurd is
outside_why sectors disk (Device fault) is = tt
outside_why sectors disk (Lack why) is = is

lack_outside : (fault : RecoverFault) → IsLack fault → IsOutside fault
lack_outside NoSuperblock is = absurd is
lack_outside (BadVersion found) is = absurd is
lack_outside (BadGeometry number) is = absurd is
lack_outside (BadRecord sector) is = absurd is
lack_outside (BadTree inode) is = absurd is
lack_outside (Device fault) is = absurd is
lack_outside (Lack why) is = is

lack_calm : (fault : RecoverFault) → IsLack fault → (count : ℕ) → HasFaultCause count count fault
lack_calm NoSuperblock is count = absurd is
lack_calm (BadVersion found) is count = absurd is
lack_calm (BadGeometry number) is count = absurd is
lack_calm (BadRecord sector) is count = absurd is
lack_calm (BadTree inode) is count = absurd is
lack_calm (Device fault) is count = absurd is
lack_calm (Lack _) is count = refl

pub refused_file : (v : FoldedVolume) (sectors : ℕ) (disk : images.Image) → IsVolumeOf sectors disk (volume_in v disk) (catalog_under v.superblock disk) → (fault : StartFault) → IsRefusedFile (form_at v.superblock.geometry (image_under v.superblock disk)) fault
    → NamesFile (IsInode v.superblock.geometry) fault → TellsNoStart sectors disk fault
refused_file v sectors disk standing (Image fault) is named = outside_why sectors disk fault (lack_outside fault is)
refused_file v sectors disk standing (Unreached inode) is named = absurd is
refused_file v sectors disk standing (Unnamed inode) is named = absurd is
refused_file v sectors disk standing (ExtraBlocks inode) is named = (volume_in v disk, standing, (named, is))

pub refused_names : (v : FoldedVolume) (f : CatalogRead) (sectors : ℕ) (disk : images.Image) → IsVolumeOf sectors disk (volume_in v disk) (catalog_under v.superblock disk) → IsUndamaged v.superblock.geometry (image_under v.superblock disk) f → (fault : StartFault) → IsNamesFault v.superblock.geometry f fault
    → TellsNoStart sectors disk fault
refused_names v f sectors disk standing undamaged (Image fault) is = outside_why sectors disk fault (lack_outside fault is)
refused_names v f sectors disk standing undamaged (Unreached inode) is = (volume_in v disk, standing, is (image_under v.superblock disk) undamaged)
refused_names v f sectors disk standing undamaged (Unnamed inode) is = (volume_in v disk, standing, is (image_under v.superblock disk) undamaged)
refused_names v f sectors disk standing undamaged (ExtraBlocks inode) is = absurd is

pub calm_names : (g : Geometry) (f : CatalogRead) (fault : StartFault) → IsNamesFault g f fault → (count : ℕ) → HasStartCause count count fault
calm_names g f (Image fault) is count = lack_calm fault is count
calm_names g f (Unreached inode) is count = refl
calm_names g f (Unnamed inode) is count = refl
calm_names g f (ExtraBlocks inode) is count = refl

-- no call of a disk failed
pub of_calm : {X : Type 0} (r : Result X StartFault) (before now : ℕ) → now ≡ before → IfErr r (λ f. (count : ℕ) → HasStartCause count count f) → IfErr r (HasStartCause before now)
of_calm (Ok x) before now same calm = tt
of_calm (Err fault) before now same calm = subst (λ n. HasStartCause before n fault) (sym same) (calm before)

-- ---- free blocks

pub untaken : (inside taken free : Bool) → free ≡ (inside && not taken) → free ≡ true → taken ≡ false
untaken true true free are is = absurd (let no : false ≡ true = sym are ∙ is in cc)
untaken true false free are is = refl
untaken false true free are is = absurd (let no : false ≡ true = sym are ∙ is in cc)
untaken false false free are is = refl

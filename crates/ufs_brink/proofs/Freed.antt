-- An image that a recovery left has nothing that a recovery mends: no inode without a name, and no block too many.
use Rattle.std.proofs.Common.{◌≡◌, ◌≢◌, ℕ, [], None, Some, ap, sym, ◌∙◌, subst, arith}
use Rattle.std.specs.Prelude.{flat_map, length, ◌<◌, ◌==◌, if◌then◌else◌, Ok}
use Rattle.std.specs.List.{slice_get}
use Rattle.ufs_base.specs.Images as images
use Rattle.ufs_disk.specs.Disk.{State, seen}
use Rattle.ufs_image.specs.Catalog.{Catalog, IsInode, catalog_at, slots_in}
use Rattle.ufs_image.specs.Changes.{IsUnreached}
use Rattle.ufs_image.specs.Fold.{folded}
use Rattle.ufs_image.specs.Images.{form_at}
use Rattle.ufs_image.specs.Nodes.{blocks_of}
use Rattle.ufs_image.specs.Sound.{HasDentry}
use Rattle.ufs_image.specs.Volume.{Volume, superblock_of, volume}
use Rattle.ufs_image.proofs.Journals.{taken}
use Rattle.ufs_layout.specs.DentryForm.{DentryForm}
use Rattle.ufs_layout.specs.Superblock.{geometry_of}
use Rattle.ufs_layout.specs.declared.geometry.Geometry.{Geometry}
use Rattle.ufs_model.specs.Excuses as excuses
use Rattle.ufs_recovery.specs.Recovered.{AreFitted, HasNoOrphans, IsCleanDisk, IsRecovered}
use Rattle.ufs_start.specs.Refused.{IsCutOff, IsUnnamedFile, TellsNoStart}
use Rattle.ufs_start.specs.declared.fault.StartFault.{StartFault}
use Rattle.ufs_start.specs.declared.fault.StartFault.TheVariants.{Image, Unreached, Unnamed, ExtraBlocks}
use Rattle.ufs_brink.specs.Begins.{TellsNoSession}

-- a free inode has no names
used_there : (g : Geometry) (c : Catalog) (inode place : ℕ) (d : DentryForm) → HasDentry g c inode place d → (c.forms inode).kind ≢ 0
used_there g c inode place d has free =
    let none : slots_in c inode ≡ [] = ap (λ (k : ℕ). if k == 2 then flat_map c.slots (blocks_of (c.forms inode)) else []) free in
    let no : None ≡ Some d = sym (ap (λ slots. slice_get slots place) none) ∙ has.there in
    absurd cc

module _ (sectors : ℕ) (before : images.Image) (after : State) (recovered : IsRecovered before (seen after)) (clean : IsCleanDisk sectors after) (v : Volume) (is : volume sectors (seen after) ≡ Ok v) where
  geometry_there : v.geometry ≡ geometry_of (superblock_of before)
  geometry_there = ap (λ (u : Volume). u.geometry) (taken sectors (seen after) v is).same ∙ ap geometry_of recovered.superblock

  -- nothing is committed that isn't home
  image_there : v.image ≡ seen after
  image_there = ap (λ (u : Volume). u.image) (taken sectors (seen after) v is).same ∙ ap (λ log. folded (geometry_of (superblock_of (seen after))) log (seen after)) clean.empty

  none_there : HasNoOrphans v.geometry v.image
  none_there = subst (λ (g : Geometry). HasNoOrphans g v.image) (sym geometry_there) (subst (HasNoOrphans (geometry_of (superblock_of before))) (sym image_there) recovered.named)

  met_there : (inode : ℕ) → IsInode v.geometry inode → (form_at v.geometry v.image inode).kind ≢ 0 → IsUnreached (catalog_at v.geometry v.image) inode → ⊥
  met_there inode in_range used unreached = let met = none_there inode in_range used in unreached met.names met.met

  no_file : (inode : ℕ) → IsUnnamedFile v.geometry (catalog_at v.geometry v.image) inode → ⊥
  no_file inode file = met_there inode file.in_range (λ free. let no : 1 ≡ 0 = sym file.file ∙ free in absurd cc) file.unreached

  no_dir : (inode : ℕ) → IsCutOff v.geometry (catalog_at v.geometry v.image) inode → ⊥
  no_dir inode dir = met_there inode dir.stands.in_range (used_there v.geometry (catalog_at v.geometry v.image) inode dir.place dir.dentry dir.stands) dir.unreached

  fitted_there : AreFitted v.geometry v.image
  fitted_there = subst (λ (g : Geometry). AreFitted g v.image) (sym geometry_there) (subst (AreFitted (geometry_of (superblock_of before))) (sym image_there) recovered.fitted)

  no_block : (inode : ℕ) → IsInode v.geometry inode → (form_at v.geometry v.image inode).kind ≡ 1
      → excuses.blocks_of (form_at v.geometry v.image inode).size < length (blocks_of (form_at v.geometry v.image inode)) → ⊥
  no_block inode in_range file more =
      let same : excuses.blocks_of (form_at v.geometry v.image inode).size ≡ length (blocks_of (form_at v.geometry v.image inode)) = fitted_there inode in_range file in
      omega (arith, more, same)

pub none_mended : (sectors : ℕ) (before : images.Image) (after : State) → IsRecovered before (seen after) → IsCleanDisk sectors after → (fault : StartFault) → TellsNoStart sectors (seen after) fault → TellsNoSession sectors (seen after) fault
none_mended sectors before after recovered clean (Image fault) tells = tells
none_mended sectors before after recovered clean (Unreached inode) tells = no_dir sectors before after recovered clean tells.0 tells.1.taken inode tells.2
none_mended sectors before after recovered clean (Unnamed inode) tells = no_file sectors before after recovered clean tells.0 tells.1.taken inode tells.2.0
none_mended sectors before after recovered clean (ExtraBlocks inode) tells = no_block sectors before after recovered clean tells.0 tells.1.taken inode tells.2.0 tells.2.1.0 tells.2.1.1

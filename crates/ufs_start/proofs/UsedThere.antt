-- A copy has what the image uses, where its data was read as far as its metadata says.
use Rattle.std.proofs.Common.{◌≡◌, ℕ, ◌*◌, ◌<◌, ◌≤◌, inl, inr, List, unwrap_or, ap, sym, refl, ◌∙◌, subst, arith}
use Rattle.std.specs.Prelude.{Result, Ok, Err, slice_get}
use Rattle.std.proofs.lemmas.Bool.{cases_lt}
use Rattle.ufs_base.specs.Images.{Image}
use Rattle.ufs_image.specs.Agree.{AgreeOn, IsMetadata, IsOfDir}
use Rattle.ufs_image.specs.Catalog.{catalog_at}
use Rattle.ufs_image.specs.Images.{form_at}
use Rattle.ufs_image.specs.Nodes.{blocks_of}
use Rattle.ufs_image.specs.Volume.{BadGeometry, BadRecord, BadTree, BadVersion, NoSuperblock, Refusal, Volume, superblock_of, volume}
use Rattle.ufs_image.proofs.Journals.{first_metadata, inode_metadata, taken, taken_alike}
use Rattle.ufs_layout.specs.Areas.{first_of_data, sector_count, sector_of_inode}
use Rattle.ufs_layout.specs.InodeForm.{InodeForm, free_inode, inode_of}
use Rattle.ufs_layout.specs.Superblock.{geometry_of}
use Rattle.ufs_layout.specs.declared.geometry.Geometry.{Geometry}
use Rattle.ufs_start.specs.Copies.{IsUsed, IsUsedBy}
use Rattle.ufs_start.proofs.Alike.{is_number}

-- inodes lie in the metadata
of_dir_there : (g : Geometry) (one other : Image) → AgreeOn (IsMetadata g) one other → (sector : ℕ) → IsOfDir g (catalog_at g one) sector → IsOfDir g (catalog_at g other) sector
of_dir_there g one other agree sector of =
    let d = of.dir_block in
    let form : form_at g one d.inode ≡ form_at g other d.inode = ap (λ (bytes : List ℕ). unwrap_or (inode_of bytes) (free_inode 0)) (agree (sector_of_inode g d.inode) (inode_metadata g d.inode (is_number g d.inode d.has.in_range))) in
    record {
      block = of.block;
      dir_block = record {
        inode = d.inode;
        place = d.place;
        has = record { in_range = d.has.in_range; there = ap (λ (f : InodeForm). slice_get (blocks_of f) d.place) (sym form) ∙ d.has.there };
        dir = ap (λ (f : InodeForm). f.kind) (sym form) ∙ d.dir;
      };
      of_block = of.of_block;
    }

-- The metadata of a disk is in front, and the data up to some block is there beside it.
pub record IsReadTo (g : Geometry) (disk front whole : Image) (end : ℕ) : Type 0 where
  pub least : first_of_data g ≤ end
  pub front_is : AgreeOn (IsMetadata g) front disk
  pub kept : AgreeOn (IsMetadata g) whole front
  pub there : (s : ℕ) → 8 * first_of_data g ≤ s → s < 8 * end → whole s ≡ disk s
  -- no directory has a block behind
  pub behind : (v : Volume) → volume (sector_count g) front ≡ Ok v → (sector : ℕ) → sector < sector_count g → IsOfDir g (catalog_at g v.image) sector → sector < 8 * end

module _ (g : Geometry) (disk front whole : Image) (end : ℕ) (is : IsReadTo g disk front whole end) (own : g ≡ geometry_of (superblock_of front)) where
  own_here : geometry_of (superblock_of whole) ≡ g
  own_here = ap (λ bytes. geometry_of (superblock_of (λ _. bytes))) (is.kept 0 (first_metadata g)) ∙ sym own

  before : (sector : ℕ) → sector < sector_count g → (r : Result Volume Refusal) → volume (sector_count g) whole ≡ r → IsUsedBy g r sector → sector < 8 * end
  before sector less (Ok v) e (inl within) = let least = is.least in omega (arith, within, least)
  before sector less (Ok v) e (inr of) =
      let same : v.geometry ≡ g = ap (λ (u : Volume). u.geometry) (taken (sector_count g) whole v e).same ∙ own_here in
      let w = taken_alike (sector_count g) whole front v (IsMetadata g) e (subst (λ (h : Geometry). (s : ℕ) → IsMetadata h s → IsMetadata g s) (sym same) (λ s within. within)) is.kept in
      is.behind w.0 w.1 sector less (of_dir_there g v.image w.0.image w.4 sector of)
  before sector less (Err (BadRecord bad)) e within = let least = is.least in omega (arith, within, least)
  before sector less (Err NoSuperblock) e small = let least = is.least in omega (arith, small, least)
  before sector less (Err (BadVersion version)) e small = let least = is.least in omega (arith, small, least)
  before sector less (Err (BadGeometry number)) e small = let least = is.least in omega (arith, small, least)
  before sector less (Err (BadTree inode)) e small = let least = is.least in omega (arith, small, least)

  pub used_there : AgreeOn (IsUsed (sector_count g) whole) whole disk
  used_there sector used =
      let below = before sector used.inside (volume (sector_count g) whole) refl (subst (λ (h : Geometry). IsUsedBy h (volume (sector_count g) whole) sector) own_here used.used) in
      elim (cases_lt sector (8 * first_of_data g)) [
        | inl within ↦ is.kept sector within ∙ is.front_is sector within
        | inr from ↦ is.there sector from below
      ]

-- An image opens by the sectors of its disk alone.
use Rattle.std.proofs.Common.{◌≡◌, ℕ, ◌<◌, ◌≤◌, arith}
use Rattle.ufs_base.specs.Images.{Image}
use Rattle.ufs_disk.specs.Disk.{Cell}
use Rattle.ufs_layout.specs.Areas.{IsGeometry, sector_count}
use Rattle.ufs_layout.specs.Superblock.{geometry_of}
use Rattle.ufs_layout.specs.declared.superblock.Super.{Super}
use Rattle.ufs_image.specs.Agree.{IsOfBlock}
use Rattle.ufs_image.specs.Catalog.{Catalog, IsInode}
use Rattle.ufs_image.specs.Nodes.{blocks_of}
use Rattle.ufs_image.specs.Opens.{opens}
use Rattle.ufs_image.specs.Standing.{IsVolumeOf}
use Rattle.ufs_image.specs.Volume.{Volume}
use Rattle.std.specs.Prelude.{Some}
use Rattle.std.specs.List.{slice_get}
use Rattle.ufs_image.proofs.Changed.{spells_catalog}
use Rattle.ufs_image.proofs.Holders.{block_in_data}
use Rattle.ufs_image.proofs.Listed.{in_at_place}
use Rattle.ufs_image.proofs.OneTree.{one_tree}
use Rattle.ufs_image.proofs.Opening.{has_geometry, ignores}
use Rattle.ufs_ledger.specs.Ledger.{Stand, IsLeft}
use Rattle.ufs_ledger.proofs.Opened.{is_volume}

module _ (sectors : ℕ) (image other : Image) (v : Volume) (c : Catalog) (is : IsVolumeOf sectors image v c) (same : (s : ℕ) → s < sectors → image s ≡ other s) where
  room : sector_count v.geometry ≤ sectors
  room = (has_geometry sectors image v is.taken).1

  geometry : IsGeometry v.geometry
  geometry = (has_geometry sectors image v is.taken).0

  of_inode : (inode place block sector : ℕ) → IsInode v.geometry inode → slice_get (blocks_of (c.forms inode)) place ≡ Some block → IsOfBlock block sector → sector < sectors
  of_inode inode place block sector ranged there of =
      let within = block_in_data v.geometry (c.forms inode).extents block (is.sound.in_data inode ranged) (in_at_place block (blocks_of (c.forms inode)) place there) in
      let at = of.same in let slot = of.in_block in let low = within.1 in let all = room in omega (arith, at, slot, low, all)

  pub opens_within : opens sectors other ≡ opens sectors image
  opens_within =
      let w = ignores sectors image other v c (λ s. s < sectors) is (λ s low. let left = geometry.data_left in let all = room in omega (arith, low, left, all))
      (λ s of. of_inode of.dir_block.inode of.dir_block.place of.block s of.dir_block.has.in_range of.dir_block.has.there of.of_block) same in
      one_tree sectors image other v w.0 c is w.1 w.2 (λ inode ranged s of. w.4 s (of_inode inode of.place of.block s ranged of.there of.of_block))

pub left_within : (sectors : ℕ) (superblock : Super) (blocks : ℕ → Cell) (s : Stand) (image other : Image) → IsLeft sectors superblock blocks s image → ((k : ℕ) → k < sectors → image k ≡ other k) → opens sectors other ≡ opens sectors image
left_within sectors superblock blocks s image other left same =
    opens_within sectors image other left.as_volume s.catalog (is_volume sectors superblock blocks s image left (λ these i c is dirs. spells_catalog (geometry_of superblock) these i c is dirs)) same

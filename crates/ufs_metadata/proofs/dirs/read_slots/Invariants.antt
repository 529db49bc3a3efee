use Rattle.std.proofs.Common.{◌≡◌, ◌≤◌, ◌*◌, length, IsTrue, take}
use Rattle.std.specs.Prelude.{flat_map}
use Rattle.std.specs.List.{range_with_len}
use Rattle.ufs_base.specs.Images.{Image}
use Rattle.ufs_base.specs.declared.sizes.TheConstants.{MAX_BLOCKS}
use Rattle.ufs_disk.specs.Moments.{reads}
use Rattle.ufs_metadata.specs.Folded.{IsFolded}
use Rattle.ufs_metadata.specs.Reading.{IsReadOnly}
use Rattle.ufs_layout.specs.declared.inode.Extent.{Extent}
use Rattle.ufs_image.specs.Nodes.{read_block}
use Rattle.ufs_metadata.proofs.dirs.read_slots.Given as goal

abbrev pub invariant-loop-extent : goal.invariant-loop-extent
invariant-loop-extent g l =
    let disk = g.D.Disk in
    let first = disk.moments l.fn.disk in
    record {
      slots : IsTrue disk.visible → (image : Image) → IsFolded l.overlay (reads first) image → l.slots.items ≡ flat_map (read_block image) (flat_map (λ (e : Extent). range_with_len e.start e.length) (take l.extent-index l.form.extents));
      within : l.extent-index ≤ length l.form.extents;
      few : length l.slots.items ≤ 64 * (l.extent-index * MAX_BLOCKS);
      read_only : IsTrue disk.visible → IsReadOnly disk.keeps first (disk.moments l.disk);
      size : disk.size l.disk ≡ disk.size l.fn.disk;
      faults : disk.faults l.disk ≡ disk.faults l.fn.disk;
    }

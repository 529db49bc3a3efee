use Rattle.std.proofs.Common.{◌≡◌, ◌≤◌, ◌+◌, ◌*◌, ◌++◌, length, IsTrue}
use Rattle.std.specs.Prelude.{flat_map}
use Rattle.std.specs.List.{range_with_len}
use Rattle.ufs_base.specs.Images.{Image}
use Rattle.ufs_disk.specs.Moments.{reads}
use Rattle.ufs_metadata.specs.Folded.{IsFolded}
use Rattle.ufs_metadata.specs.Reading.{IsReadOnly}
use Rattle.ufs_image.specs.Nodes.{read_block}
use Rattle.ufs_metadata.proofs.dirs.read_extent.Given as goal

abbrev pub invariant-loop-place : goal.invariant-loop-place
invariant-loop-place g l =
    let disk = g.D.Disk in
    let first = disk.moments l.fn.disk in
    record {
      slots : IsTrue disk.visible → (image : Image) → IsFolded l.overlay (reads first) image → l.slots.items ≡ l.fn.slots.items ++ flat_map (read_block image) (range_with_len l.extent.start l.place);
      few : length l.slots.items ≤ length l.fn.slots.items + 64 * l.place;
      read_only : IsTrue disk.visible → IsReadOnly disk.keeps first (disk.moments l.disk);
      size : disk.size l.disk ≡ disk.size l.fn.disk;
      faults : disk.faults l.disk ≡ disk.faults l.fn.disk;
    }

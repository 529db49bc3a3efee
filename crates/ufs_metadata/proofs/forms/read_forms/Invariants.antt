use Rattle.std.proofs.Common.{◌≡◌, IsTrue, length, map}
use Rattle.std.specs.Prelude.{min}
use Rattle.std.specs.List.{range_with_len}
use Rattle.ufs_base.specs.Images.{Image}
use Rattle.ufs_disk.specs.Moments.{reads}
use Rattle.ufs_metadata.specs.Folded.{IsFolded}
use Rattle.ufs_metadata.specs.Reading.{IsReadOnly}
use Rattle.std.proofs.Common.{◌*◌}
use Rattle.ufs_image.specs.Images.{inode_at}
use Rattle.ufs_metadata.proofs.forms.read_forms.Given as goal

abbrev pub invariant-loop-place : goal.invariant-loop-place
invariant-loop-place g l =
    let disk = g.D.Disk in
    let first = disk.moments l.fn.disk in
    record {
      count : length l.forms.items ≡ min (8 * l.place) l.geometry.inodes;
      forms : IsTrue disk.visible → (image : Image) → IsFolded l.overlay (reads first) image → l.forms.items ≡ map (inode_at l.geometry image) (range_with_len 1 (min (8 * l.place) l.geometry.inodes));
      read_only : IsTrue disk.visible → IsReadOnly disk.keeps first (disk.moments l.disk);
      size : disk.size l.disk ≡ disk.size l.fn.disk;
      faults : disk.faults l.disk ≡ disk.faults l.fn.disk;
    }

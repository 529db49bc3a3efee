use Rattle.std.proofs.Common.{◌≡◌, ◌*◌, ◌++◌, IsTrue, List, map}
use Rattle.std.specs.List.{range_with_len}
use Rattle.ufs_base.specs.Images.{Image}
use Rattle.ufs_disk.specs.Moments.{reads}
use Rattle.ufs_metadata.specs.Folded.{IsFolded}
use Rattle.ufs_image.specs.Nodes.{Node}
use Rattle.ufs_image.specs.Damage.{BitmapDiffers, differing}
use Rattle.ufs_damage.specs.Taken.{AreTaken}
use Rattle.ufs_metadata.specs.Reading.{IsReadOnly}
use Rattle.ufs_check.proofs.bits.compare_bits.Given as goal

abbrev pub invariant-loop-place : goal.invariant-loop-place
invariant-loop-place g l =
    let disk = g.D.Disk in
    let first = disk.moments l.fn.disk in
    record {
      told : IsTrue disk.visible → (image : Image) → IsFolded l.overlay (reads first) image → (nodes : List Node) → AreTaken l.geometry nodes l.taken → l.list ≡ l.fn.list ++ map BitmapDiffers (differing l.geometry image nodes (range_with_len 0 (32768 * l.place)));
      read_only : IsTrue disk.visible → IsReadOnly disk.keeps first (disk.moments l.disk);
      size : disk.size l.disk ≡ disk.size l.fn.disk;
      faults : disk.faults l.disk ≡ disk.faults l.fn.disk;
    }

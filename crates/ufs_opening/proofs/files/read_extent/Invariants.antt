use Rattle.std.proofs.Common.{◌≡◌, ◌++◌, IsTrue, ℕ, List}
use Rattle.std.specs.Prelude.{flat_map}
use Rattle.std.specs.List.{range_with_len}
use Rattle.ufs_base.specs.Images.{Image}
use Rattle.ufs_disk.specs.Moments.{reads}
use Rattle.ufs_metadata.specs.Folded.{IsFolded}
use Rattle.ufs_metadata.specs.Reading.{IsReadOnly}
use Rattle.ufs_image.specs.Images.{block_at}
use Rattle.ufs_opening.specs.Heads.{IsFrontOf}
use Rattle.ufs_opening.proofs.files.read_extent.Given as goal

abbrev pub invariant-loop-place : goal.invariant-loop-place
invariant-loop-place g l =
    let disk = g.D.Disk in
    let first = disk.moments l.fn.disk in
    record {
      bytes : IsTrue disk.visible → (image : Image) → IsFolded l.overlay (reads first) image → (whole : List ℕ) → IsFrontOf l.enough l.fn.bytes.items whole → IsFrontOf l.enough l.bytes.items (whole ++ flat_map (block_at image) (range_with_len l.extent.start l.place));
      read_only : IsTrue disk.visible → IsReadOnly disk.keeps first (disk.moments l.disk);
      size : disk.size l.disk ≡ disk.size l.fn.disk;
      faults : disk.faults l.disk ≡ disk.faults l.fn.disk;
    }

use Rattle.std.proofs.Common.{◌≡◌, ◌*◌, ◌≤◌, ◌<◌, ℕ, IsTrue}
use Rattle.ufs_disk.specs.Bytes.{image_of}
use Rattle.ufs_disk.specs.Moments.{reads}
use Rattle.ufs_metadata.specs.Reading.{IsReadOnly}
use Rattle.ufs_front.specs.Fronts.{bytes_of}
use Rattle.ufs_start.proofs.copy.copy_blocks.Given as goal

abbrev pub invariant-loop-block : goal.invariant-loop-block
invariant-loop-block g l =
    let disk = g.D.Disk in
    let first = disk.moments l.fn.disk in
    record {
      there : IsTrue disk.visible → (s : ℕ) → 8 * l.from ≤ s → s < 8 * l.block → image_of (bytes_of l.copy) s ≡ reads first s;
      before : (s : ℕ) → s < 8 * l.from → image_of (bytes_of l.copy) s ≡ image_of (bytes_of l.fn.copy) s;
      sectors : l.copy.sectors ≡ l.fn.copy.sectors;
      read_only : IsTrue disk.visible → IsReadOnly disk.keeps first (disk.moments l.disk);
      size : disk.size l.disk ≡ disk.size l.fn.disk;
      faults : disk.faults l.disk ≡ disk.faults l.fn.disk;
    }

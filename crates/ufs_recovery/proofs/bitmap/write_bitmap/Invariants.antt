use Rattle.std.proofs.Common.{◌≡◌, ◌*◌, IsTrue}
use Rattle.ufs_disk.specs.Moments.{LeavesOnly, reads}
use Rattle.ufs_recovery.specs.Marks.{AgreeOffBitmap, HasAnyBitmap, IsMarkedBelow}
use Rattle.ufs_recovery.proofs.bitmap.write_bitmap.Given as goal

abbrev pub invariant-loop-place : goal.invariant-loop-place
invariant-loop-place g l =
    let disk = g.D.Disk in
    record {
      marked : IsTrue disk.visible → IsMarkedBelow l.fn.taken (32768 * l.place) (reads (disk.moments l.disk));
      others : IsTrue disk.visible → AgreeOffBitmap l.fn.geometry (reads (disk.moments l.fn.disk)) (reads (disk.moments l.disk));
      crash : IsTrue disk.visible → LeavesOnly disk.keeps (HasAnyBitmap l.fn.geometry (disk.moments l.fn.disk).state) (disk.moments l.fn.disk) (disk.moments l.disk);
      size : disk.size l.disk ≡ disk.size l.fn.disk;
      faults : disk.faults l.disk ≡ disk.faults l.fn.disk;
    }

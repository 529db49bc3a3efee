use Rattle.std.proofs.Common.{◌≡◌, IsTrue}
use Rattle.ufs_disk.specs.Moments.{LeavesOnly, reads}
use Rattle.ufs_recovery.specs.Cleared.{AreClearedBelow, IsMixedCleared, IsPartlyCleared}
use Rattle.ufs_recovery.proofs.clearing.clear.Given as goal

abbrev pub invariant-loop-place : goal.invariant-loop-place
invariant-loop-place g l =
    let disk = g.D.Disk in
    record {
      mixed : IsTrue disk.visible → IsMixedCleared l.fn.geometry l.fn.kind l.fn.numbers (reads (disk.moments l.fn.disk)) (reads (disk.moments l.disk));
      done : IsTrue disk.visible → AreClearedBelow l.fn.geometry l.fn.kind l.fn.numbers l.place (reads (disk.moments l.disk));
      crash : IsTrue disk.visible → LeavesOnly disk.keeps (IsPartlyCleared l.fn.geometry l.fn.kind l.fn.numbers (disk.moments l.fn.disk).state) (disk.moments l.fn.disk) (disk.moments l.disk);
      size : disk.size l.disk ≡ disk.size l.fn.disk;
      faults : disk.faults l.disk ≡ disk.faults l.fn.disk;
    }

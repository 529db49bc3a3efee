use Rattle.std.proofs.Common.{◌≡◌, ◌-◌, ℕ, List}
use Rattle.ufs_layout.specs.Areas.{sector_count}
use Rattle.std.specs.Prelude.{IsTrue, nat_lt, if◌then◌else◌}
use Rattle.ufs_disk.specs.Moments.{LeavesOnly, reads}
use Rattle.ufs_image.specs.Fold.{folded}
use Rattle.ufs_overlay.specs.Over.{IsHomeSettled, IsHomeWritten}
use Rattle.ufs_overlay.specs.Seen.{HasAdded}
use Rattle.ufs_layout.specs.declared.records.Committed.{Committed}
use Rattle.ufs_overlay.proofs.overlay.Overlay.write_home.Given as goal

abbrev pub invariant-loop-sector : goal.invariant-loop-sector
invariant-loop-sector g l = record {
  read : IsTrue g.D.Disk.visible → (added : List Committed) → HasAdded l.self added → (k : ℕ) → reads (g.D.Disk.moments l.disk) k ≡ (if nat_lt k l.at then folded l.self.geometry added (reads (g.D.Disk.moments l.fn.disk)) k else reads (g.D.Disk.moments l.fn.disk) k);
  crash : IsTrue g.D.Disk.visible → (added : List Committed) → HasAdded l.self added → IsHomeSettled l.self.geometry added (g.D.Disk.moments l.fn.disk).state → LeavesOnly g.D.Disk.keeps (IsHomeWritten l.self.geometry added (g.D.Disk.moments l.fn.disk).state) (g.D.Disk.moments l.fn.disk) (g.D.Disk.moments l.disk);
  size : g.D.Disk.size l.disk ≡ g.D.Disk.size l.fn.disk;
  faults : g.D.Disk.faults l.disk ≡ g.D.Disk.faults l.fn.disk;
}

abbrev pub decreases-loop-sector : goal.decreases-loop-sector
decreases-loop-sector g l = sector_count l.self.geometry - l.at

use Rattle.std.proofs.Common.{◌≡◌, ℕ, IsTrue}
use Rattle.ufs_disk.specs.Moments.{LeavesOnly, reads}
use Rattle.ufs_recover.specs.Tables.{IsOutside, HasTablesBelow}
use Rattle.ufs_recover.specs.Stopped.{IsBlank}
use Rattle.ufs_recover.proofs.tables.write_tables.Given as goal

abbrev pub invariant-loop-block : goal.invariant-loop-block
invariant-loop-block g l =
    let disk = g.D.Disk in
    record {
      written : IsTrue disk.visible → HasTablesBelow l.fn.geometry l.block (reads (disk.moments l.disk));
      others : IsTrue disk.visible → (s : ℕ) → IsOutside l.fn.geometry s → reads (disk.moments l.disk) s ≡ reads (disk.moments l.fn.disk) s;
      crash : IsTrue disk.visible → LeavesOnly disk.keeps IsBlank (disk.moments l.fn.disk) (disk.moments l.disk);
      size : disk.size l.disk ≡ disk.size l.fn.disk;
      faults : disk.faults l.disk ≡ disk.faults l.fn.disk;
    }

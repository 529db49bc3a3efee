use Rattle.std.proofs.Common.{◌≡◌, ◌≤◌, ◌-◌, ◌*◌, length, IsTrue}
use Rattle.ufs_disk.specs.Disk.{IsImage}
use Rattle.ufs_disk.specs.Moments.{IsStill, LeavesOnly, reads}
use Rattle.ufs_layout.specs.Areas.{first_of_journal}
use Rattle.ufs_image.specs.Journal.{well_spelled}
use Rattle.ufs_found.specs.Read.{read_from, misspelled}
use Rattle.ufs_scan.proofs.reading.read_journal.Given as goal

abbrev pub invariant-loop-at : goal.invariant-loop-at
invariant-loop-at g l =
    let disk = g.D.Disk in
    let first = disk.moments l.fn.disk in
    record {
      within : l.at ≤ l.geometry.journal;
      found : IsTrue disk.visible → l.list.found.items ≡ well_spelled (read_from l.epoch (reads first) (8 * first_of_journal l.geometry) l.at);
      misspelled : IsTrue disk.visible → l.list.misspelled ≡ misspelled (read_from l.epoch (reads first) (8 * first_of_journal l.geometry) l.at);
      few : length l.list.found.items ≤ l.at;
      content : IsTrue disk.visible → reads (disk.moments l.disk) ≡ reads first;
      crash : IsTrue disk.visible → LeavesOnly disk.keeps (IsImage first.state) first (disk.moments l.disk);
      still : IsTrue disk.visible → IsStill disk.keeps first (disk.moments l.disk);
      size : disk.size l.disk ≡ disk.size l.fn.disk;
      faults : disk.faults l.disk ≡ disk.faults l.fn.disk;
    }

abbrev pub decreases-loop-at : goal.decreases-loop-at
decreases-loop-at g l = l.geometry.journal - l.at

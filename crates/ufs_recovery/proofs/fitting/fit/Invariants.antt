use Rattle.std.proofs.Common.{◌≡◌, IsTrue}
use Rattle.ufs_disk.specs.Disk.{IsSettled}
use Rattle.ufs_disk.specs.Moments.{reads}
use Rattle.ufs_layout.specs.declared.superblock.Super.{Super}
use Rattle.ufs_recovery.specs.Fitted.{IsFittedBelow, MayFit}
use Rattle.ufs_recovery.specs.Home.{KeepsTree}
use Rattle.ufs_recovery.proofs.fitting.fit.Given as goal

abbrev pub invariant-loop-place : goal.invariant-loop-place
invariant-loop-place g l =
    let disk = g.D.Disk in
    record {
      settled : IsTrue disk.visible → IsSettled (disk.moments l.fn.disk).state → IsSettled (disk.moments l.disk).state;
      fitted : IsTrue disk.visible → (superblock : Super) → MayFit (disk.size l.fn.disk) superblock (reads (disk.moments l.fn.disk)) l.fn.geometry l.fn.forms
          → IsFittedBelow (disk.size l.fn.disk) superblock l.fn.geometry l.fn.forms l.place (reads (disk.moments l.fn.disk)) (reads (disk.moments l.disk));
      tree : IsTrue disk.visible → IsSettled (disk.moments l.fn.disk).state → (superblock : Super) → MayFit (disk.size l.fn.disk) superblock (reads (disk.moments l.fn.disk)) l.fn.geometry l.fn.forms
          → KeepsTree disk.keeps (disk.size l.fn.disk) (disk.moments l.fn.disk) (disk.moments l.disk);
      size : disk.size l.disk ≡ disk.size l.fn.disk;
      faults : disk.faults l.disk ≡ disk.faults l.fn.disk;
    }

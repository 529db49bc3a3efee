use Rattle.std.proofs.Common.{◌≡◌, IsTrue, take, map}
use Rattle.ufs_base.specs.Images.{Image}
use Rattle.ufs_disk.specs.Moments.{reads}
use Rattle.ufs_metadata.specs.Folded.{IsFolded}
use Rattle.ufs_metadata.specs.Reading.{IsReadOnly}
use Rattle.ufs_walk.specs.Walked.{AreInodes, entry_of, pairs_of}
use Rattle.ufs_walk.specs.declared.places.PathAt.{PathAt}
use Rattle.ufs_opening.specs.Heads.{heads_of, paths_of, AreHeads}
use Rattle.ufs_opening.specs.Shown.{AreReadable}
use Rattle.ufs_opening.proofs.reading.read_heads.Given as goal

abbrev pub invariant-loop-place : goal.invariant-loop-place
invariant-loop-place g l =
    let disk = g.D.Disk in
    let first = disk.moments l.fn.disk in
    record {
      paths : paths_of l.heads.items ≡ map (λ (p : PathAt). p.path.items) (take l.place l.places);
      heads : IsTrue disk.visible → (image : Image) → IsFolded l.overlay (reads first) image → AreReadable l.geometry image l.forms → AreInodes l.geometry (pairs_of l.places)
          → l.heads.items ≡ heads_of l.most (map (entry_of l.geometry image) (pairs_of (take l.place l.places)));
      shape : AreHeads l.most l.heads.items;
      read_only : IsTrue disk.visible → IsReadOnly disk.keeps first (disk.moments l.disk);
      size : disk.size l.disk ≡ disk.size l.fn.disk;
      faults : disk.faults l.disk ≡ disk.faults l.fn.disk;
    }

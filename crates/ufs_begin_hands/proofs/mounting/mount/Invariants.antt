use Rattle.ufs_joint.specs.FirstHand.{start_before}
use Rattle.ufs_begin_hands.specs.Mounted.{beginning_of}
use Rattle.ufs_begin_hands.specs.Seen.{sees}
use Rattle.ufs_begin_hands.proofs.mounting.mount.Given as goal

abbrev pub ghosts-parts_before : goal.ghosts-parts_before
ghosts-parts_before g a = record { opened = start_before (beginning_of a.start.now a.clients a.workers (sees g.D.Disk.visible (g.D.Disk.size a.disk.now) (g.D.Disk.moments a.disk.now).state)) }

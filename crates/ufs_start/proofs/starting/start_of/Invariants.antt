use Rattle.ufs_disk.specs.Bytes.{image_of}
use Rattle.ufs_disk.specs.Moments.{reads}
use Rattle.ufs_front.specs.Fronts.{bytes_of}
use Rattle.ufs_start.specs.Begun.{session_start}
use Rattle.ufs_start.specs.Copies.{image_seen}
use Rattle.ufs_start.proofs.starting.start_of.Given as goal

abbrev pub ghosts-session_parts : goal.ghosts-session_parts
ghosts-session_parts g a = record { opened = session_start (g.D.Disk.size a.disk.now) (image_seen g.D.Disk.visible (reads (g.D.Disk.moments a.disk.now)) (image_of (bytes_of a.copy.now))) }

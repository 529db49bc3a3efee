use Rattle.ufs_hand_laws.specs.FileSession.{small_disk, open_leaves}
use Rattle.ufs_hand_tests.specs.Leased.{open_asked, granted, read_asked, read_leaves}
use Rattle.ufs_hand_tests.proofs.leased.session.Given as goal

abbrev pub ghosts-mark : goal.ghosts-mark
ghosts-mark g a = record { leaves = open_asked }

abbrev pub ghosts-draw : goal.ghosts-draw
ghosts-draw g a = record { leaves = open_leaves small_disk }

abbrev pub ghosts-grant : goal.ghosts-grant
ghosts-grant g a = record { leaves = granted a.asked a.ticket }

abbrev pub ghosts-ask : goal.ghosts-ask
ghosts-ask g a = record { leaves = read_asked a.asked a.ticket }

abbrev pub ghosts-draw_local : goal.ghosts-draw_local
ghosts-draw_local g a = record { leaves = read_leaves }

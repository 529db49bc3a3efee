use Rattle.ufs_model.specs.declared.data.Reply.TheVariants.{Fd}
use Rattle.ufs_one_hand_tests.proofs.TwoFiles.{left}
use Rattle.ufs_one_hand_tests.proofs.reading.open_file.Given as goal

abbrev pub ghosts-draw : goal.ghosts-draw
ghosts-draw g a = record { before = g.N.Naming.start.tree; fds = left; reply = Fd 3 }

use Rattle.std.specs.Prelude.{[], ◌∷◌}
use Rattle.ufs_model.specs.History.{goes_on}
use Rattle.ufs_model.specs.declared.data.Reply.TheVariants.{Got}
use Rattle.ufs_hand_laws.specs.Draws.{entry_of}
use Rattle.ufs_one_hand_tests.specs.TwoFiles.{opens}
use Rattle.ufs_one_hand_tests.proofs.TwoFiles.{left}
use Rattle.ufs_one_hand_tests.proofs.reading.read_file.Given as goal

abbrev pub ghosts-draw : goal.ghosts-draw
ghosts-draw g a = record { before = goes_on g.N.Naming.start.tree (entry_of 0 opens); fds = left; reply = Got (97 ∷ []) }

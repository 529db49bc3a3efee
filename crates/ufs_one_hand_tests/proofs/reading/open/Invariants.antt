use Rattle.ufs_one_hand_tests.specs.TwoFiles.{two_files}
use Rattle.ufs_one_hand_tests.proofs.reading.open.Given as goal

abbrev pub ghosts-picked : goal.ghosts-picked
ghosts-picked g a = record { opened = two_files }

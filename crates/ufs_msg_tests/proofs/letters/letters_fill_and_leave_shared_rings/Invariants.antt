use Rattle.ufs_disk.specs.Moments.{unseen}
use Rattle.ufs_joint.specs.Rule.{no_table}
use Rattle.ufs_msg_tests.proofs.Sessions.{two_workers}
use Rattle.ufs_msg_tests.proofs.letters.letters_fill_and_leave_shared_rings.Given as goal

abbrev pub ghosts-shared_session : goal.ghosts-shared_session
ghosts-shared_session g a = record { table = no_table; start = two_workers; origin = unseen }

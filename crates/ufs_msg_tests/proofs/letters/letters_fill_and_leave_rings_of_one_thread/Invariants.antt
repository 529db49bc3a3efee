use Rattle.ufs_disk.specs.Moments.{unseen}
use Rattle.ufs_joint.specs.Rule.{no_table}
use Rattle.ufs_msg_tests.proofs.Sessions.{two_workers}
use Rattle.ufs_msg_tests.proofs.letters.letters_fill_and_leave_rings_of_one_thread.Given as goal

abbrev pub ghosts-plain_session : goal.ghosts-plain_session
ghosts-plain_session g a = record { table = no_table; start = two_workers; origin = unseen }

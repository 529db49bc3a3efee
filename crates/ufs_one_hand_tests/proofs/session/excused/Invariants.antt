use Rattle.std.specs.FinMap as fin
use Rattle.ufs_model.specs.declared.data.Excuse.TheVariants.{Memory}
use Rattle.ufs_model.specs.declared.data.Reply.TheVariants.{Excused}
use Rattle.ufs_one_hand_tests.proofs.session.excused.Given as goal

abbrev pub ghosts-draw : goal.ghosts-draw
ghosts-draw g a = record { before = g.N.Naming.start.tree; fds = fin.empty; reply = Excused Memory }

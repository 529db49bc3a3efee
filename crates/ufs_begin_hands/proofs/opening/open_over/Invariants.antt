use Rattle.ufs_joint.specs.FirstHand.{with_store}
use Rattle.ufs_begin_hands.proofs.opening.open_over.Given as goal

abbrev pub ghosts-parts_over : goal.ghosts-parts_over
ghosts-parts_over g a = record { opened = with_store (g.S.Door.store a.store.now) a.before.start }

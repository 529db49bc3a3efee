use Rattle.ufs_turns.specs.HeldStore.{moved_view}
use Rattle.ufs_turns.proofs.space.give_lent.Given as goal

abbrev pub ghosts-move_blocks : goal.ghosts-move_blocks
ghosts-move_blocks g a = record { leaves = λ n. moved_view a.pool.now (g.D.Door.store a.store.now) a.hand.now }

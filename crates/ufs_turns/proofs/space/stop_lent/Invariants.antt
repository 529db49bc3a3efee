use Rattle.ufs_turns.specs.HeldStore.{bare_turn, begun_view, ended_view}
use Rattle.ufs_turns.proofs.space.stop_lent.Given as goal

abbrev pub ghosts-begin_turn : goal.ghosts-begin_turn
ghosts-begin_turn g a = record { leaves = begun_view a.hand.now }

abbrev pub ghosts-end_bare : goal.ghosts-end_bare
ghosts-end_bare g a = record { leaves = ended_view (bare_turn g.D.Door.keeps a.told (g.D.Door.store a.store.now) a.hand.now) a.hand.now }

use Rattle.ufs_turns.specs.HeldStore.{begun_view, ended_view}
use Rattle.ufs_turns.specs.NamesLent.{names_turn}
use Rattle.ufs_turns.proofs.commits.commit_lent.Given as goal

abbrev pub ghosts-begin_turn : goal.ghosts-begin_turn
ghosts-begin_turn g a = record { leaves = begun_view a.hand.now }

abbrev pub ghosts-end_names : goal.ghosts-end_names
ghosts-end_names g a = record { leaves = ended_view (names_turn g.D.Door.keeps a.done a.told (g.D.Door.store a.store.now) a.hand.now) a.hand.now }

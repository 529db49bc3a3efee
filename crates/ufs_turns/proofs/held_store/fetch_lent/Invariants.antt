use Rattle.ufs_file_commits.specs.State.{state_of}
use Rattle.ufs_turns.specs.HeldStore.{begun_view, ended_view, sync_turn}
use Rattle.ufs_turns.proofs.held_store.fetch_lent.Given as goal

abbrev pub ghosts-begin_turn : goal.ghosts-begin_turn
ghosts-begin_turn g a = record { leaves = begun_view a.hand.now }

abbrev pub ghosts-end_turn : goal.ghosts-end_turn
ghosts-end_turn g a = record { leaves = ended_view (sync_turn g.D.Door.keeps a.done a.told (state_of a.file.now a.commits.now) (g.D.Door.store a.store.now) a.hand.now) a.hand.now }

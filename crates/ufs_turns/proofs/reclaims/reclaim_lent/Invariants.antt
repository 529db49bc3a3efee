use Rattle.ufs_turns.specs.AllLent.{reclaiming_turn}
use Rattle.ufs_turns.specs.HeldStore.{begun_view, ended_view}
use Rattle.ufs_turns.proofs.reclaims.reclaim_lent.Given as goal

abbrev pub ghosts-begin_turn : goal.ghosts-begin_turn
ghosts-begin_turn g a = record { leaves = begun_view a.hand.now }

abbrev pub ghosts-end_all : goal.ghosts-end_all
ghosts-end_all g a = record { leaves = ended_view (reclaiming_turn g.D.Door.keeps a.done a.told (g.D.Door.store a.store.now) a.hand.now) a.hand.now }

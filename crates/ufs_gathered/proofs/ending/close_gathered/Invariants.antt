use Rattle.ufs_turns.specs.HeldStore.{begun_view}
use Rattle.ufs_gathered.proofs.ending.close_gathered.Given as goal

abbrev pub ghosts-mark : goal.ghosts-mark
ghosts-mark g a = record { leaves = begun_view a.self.now }

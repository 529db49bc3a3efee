use Rattle.ufs_held.specs.Births.{told_view}
use Rattle.ufs_held.proofs.births.tell_lent.Given as goal

abbrev pub ghosts-tell : goal.ghosts-tell
ghosts-tell g a = record { leaves = λ n. told_view a.hand.now }

use Rattle.ufs_held.specs.Together.{still_of}
use Rattle.ufs_held.proofs.still.draw_still.Given as goal

abbrev pub ghosts-draw_leaving : goal.ghosts-draw_leaving
ghosts-draw_leaving g a = record { leaves = λ n. still_of a.hand.now }

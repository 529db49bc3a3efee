use Rattle.ufs_load.proofs.SquareLemmas.{move_lowers}
use Rattle.ufs_load.proofs.laws.a_move_lowers_the_squares.Goals as goal

pub returns : goal.returns
returns c = move_lowers

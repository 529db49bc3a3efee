use Rattle.ufs_ring.proofs.ItemLemmas.{taken_pass}
use Rattle.ufs_ring.proofs.ruled.what_is_taken_was_put.Goals as goal

pub returns : goal.returns
returns g c test items ends k put = taken_pass test items ends k put

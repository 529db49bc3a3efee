use Rattle.ufs_bitmap.proofs.TakingLemmas.{takes_one_way}
use Rattle.ufs_bitmap.proofs.taking.a_pool_gives_in_one_way.Goals as goal

pub returns : goal.returns
returns c = takes_one_way

use Rattle.ufs_store_tests.proofs.Empty.{none_has}
use Rattle.ufs_store_tests.proofs.images.fill.Goals as goal

pub give_pool-requires : goal.give_pool-requires
give_pool-requires g c = record { apart = λ b there. none_has c.args.pool.now c.requires b there }

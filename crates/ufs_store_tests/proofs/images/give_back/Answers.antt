use Rattle.ufs_store_tests.proofs.Empty.{none_has}
use Rattle.ufs_store_tests.proofs.images.give_back.Goals as goal

pub take_back-requires-clause-inside : goal.take_back-requires-clause-inside
take_back-requires-clause-inside g c b there = none_has c.args.pool.now c.requires b there

pub take_back-requires-clause-apart : goal.take_back-requires-clause-apart
take_back-requires-clause-apart g c b there = none_has c.args.pool.now c.requires b there

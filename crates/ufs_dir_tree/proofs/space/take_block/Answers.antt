use Rattle.ufs_dir_tree.proofs.SpaceLemmas.{lowest_run}
use Rattle.ufs_dir_tree.proofs.space.take_block.Goals as goal

pub returns-in-Some-clause-taken : goal.returns-in-Some-clause-taken
returns-in-Some-clause-taken c = lowest_run c.args.pool.now c.take.new.self c.in-Some.run' c.in-Some.ensures.run c.in-Some.ensures.lowest c.in-Some.ensures.taken

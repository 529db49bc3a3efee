use Rattle.ufs_store_steps.proofs.WriteMarks.{writes_mark, failed_writes_mark, quiet_calls_mark, failed_barriers_mark}
use Rattle.ufs_store_steps.proofs.laws.write_mark_law.Goals as goal

pub returns-clause-write : goal.returns-clause-write
returns-clause-write c = writes_mark c.args.geometry.now

pub returns-clause-failed_write : goal.returns-clause-failed_write
returns-clause-failed_write c = failed_writes_mark c.args.geometry.now

pub returns-clause-quiet : goal.returns-clause-quiet
returns-clause-quiet c = quiet_calls_mark c.images_show_trees.ensures.same c.args.geometry.now

pub returns-clause-failed_barrier : goal.returns-clause-failed_barrier
returns-clause-failed_barrier c = failed_barriers_mark c.images_show_trees.ensures.same c.args.geometry.now

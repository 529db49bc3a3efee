use Rattle.ufs_dirs.proofs.NextLemmas.{next_of_rank, next_of_gap}
use Rattle.ufs_dirs.proofs.index.next_rank.Goals as goal

pub returns-in-Ok : goal.returns-in-Ok
returns-in-Ok c = next_of_rank c.args.slots.now c.args.order.now c.requires c.args.after.now c.in-Ok.rank c.in-Ok.ensures.found

pub returns-in-Err : goal.returns-in-Err
returns-in-Err c = next_of_gap c.args.slots.now c.args.order.now c.requires c.args.after.now c.in-Err.rank c.in-Err.ensures.absent

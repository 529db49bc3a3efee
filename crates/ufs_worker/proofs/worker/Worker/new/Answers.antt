use Rattle.std.proofs.Common.{None}
use Rattle.ufs_serving.specs.Posts.{all_said}
use Rattle.ufs_worker.specs.Worker.{worker_of}
use Rattle.ufs_worker.proofs.worker.Worker.new.Goals as goal

pub returns : goal.returns
returns g c = λ i. worker_of c.args.number (c.new.ensures i) None c.args.pool (all_said (c.new-2.ensures.items i))

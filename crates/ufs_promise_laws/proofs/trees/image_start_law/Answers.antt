use Rattle.ufs_promise_laws.proofs.Started.{image_is_tree, image_part}
use Rattle.ufs_promise_laws.proofs.trees.image_start_law.Goals as goal

pub returns-clause-paths : goal.returns-clause-paths
returns-clause-paths c = image_is_tree c.args.sectors

pub returns-clause-part : goal.returns-clause-part
returns-clause-part c = image_part c.args.sectors

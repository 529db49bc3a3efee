use Rattle.ufs_store_steps.proofs.WriteSteps.{writes_go}
use Rattle.ufs_store_steps.proofs.laws.write_step_law.Goals as goal

pub returns : goal.returns
returns c = writes_go c.args.geometry.now

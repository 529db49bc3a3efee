use Rattle.ufs_store_steps.proofs.Quiet.{quiet_calls, checkpoints, emptied_alike}
use Rattle.ufs_store_steps.proofs.laws.checkpoint_step_law.Goals as goal

pub returns-clause-quiet : goal.returns-clause-quiet
returns-clause-quiet c = quiet_calls c.args.geometry.now

pub returns-clause-checkpoint : goal.returns-clause-checkpoint
returns-clause-checkpoint c = checkpoints c.args.geometry.now

pub returns-clause-emptied : goal.returns-clause-emptied
returns-clause-emptied c = emptied_alike c.args.geometry.now

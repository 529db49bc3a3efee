use Rattle.ufs_store_steps.proofs.Runs.{last_is_passed, quiet_runs, checkpoint_runs, write_runs, file_commit_runs, name_commit_runs}
use Rattle.ufs_store_steps.proofs.laws.run_step_law.Goals as goal

pub returns-clause-last : goal.returns-clause-last
returns-clause-last c = last_is_passed

pub returns-clause-quiet : goal.returns-clause-quiet
returns-clause-quiet c = quiet_runs c.args.geometry.now

pub returns-clause-checkpoint : goal.returns-clause-checkpoint
returns-clause-checkpoint c = checkpoint_runs c.args.geometry.now

pub returns-clause-write : goal.returns-clause-write
returns-clause-write c = write_runs c.args.geometry.now

pub returns-clause-file : goal.returns-clause-file
returns-clause-file c = file_commit_runs c.args.geometry.now

pub returns-clause-names : goal.returns-clause-names
returns-clause-names c = name_commit_runs c.args.geometry.now

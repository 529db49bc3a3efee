use Rattle.ufs_names_commit.proofs.Reclaiming.{checkpoint_fails, checkpoint_fails_kept, checkpoint_may_leave, reclaimed, reclaimed_kept, reclaimed_part, reclaimed_sound}
use Rattle.ufs_names_commit.proofs.laws.reclaim_law.Goals as goal

pub returns-clause-reclaimed : goal.returns-clause-reclaimed
returns-clause-reclaimed c = reclaimed c.args.geometry.now c.ready_law.ensures.checkpoint c.form_law.ensures.sound

pub returns-clause-may_leave : goal.returns-clause-may_leave
returns-clause-may_leave c = checkpoint_may_leave c.args.geometry.now c.always_law.ensures.checkpoint_image

pub returns-clause-fails : goal.returns-clause-fails
returns-clause-fails c = checkpoint_fails c.args.geometry.now c.stopping_law.ensures.checkpoint

pub returns-clause-sound : goal.returns-clause-sound
returns-clause-sound c = reclaimed_sound

pub returns-clause-parts : goal.returns-clause-parts
returns-clause-parts c = reclaimed_part

pub returns-clause-known : goal.returns-clause-known
returns-clause-known c = reclaimed_kept c.args.geometry.now c.ready_law.ensures.checkpoint c.form_law.ensures.sound

pub returns-clause-failed : goal.returns-clause-failed
returns-clause-failed c = checkpoint_fails_kept c.args.geometry.now c.stopping_law.ensures.checkpoint

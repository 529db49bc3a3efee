use Rattle.ufs_brink.proofs.Starts.{are_sound, may_begin}
use Rattle.ufs_brink.proofs.laws.beginning_law.Goals as goal

pub returns-clause-may : goal.returns-clause-may
returns-clause-may c sectors image s start is = may_begin sectors image s is start

pub returns-clause-sound : goal.returns-clause-sound
returns-clause-sound c sectors image s is = are_sound sectors image s is c.start_law.ensures.opened c.start_law.ensures.named c.parts_law.ensures.whole c.parts_law.ensures.sound

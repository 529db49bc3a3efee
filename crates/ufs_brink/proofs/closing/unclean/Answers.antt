use Rattle.std.proofs.Common.{subst}
use Rattle.ufs_metadata.specs.Faults.{IsOutside}
use Rattle.ufs_brink.proofs.Lacks.{sound_lack}
use Rattle.ufs_brink.proofs.closing.unclean.Goals as goal

pub returns-in-Lack-clause-sound : goal.returns-in-Lack-clause-sound
returns-in-Lack-clause-sound c outside = sound_lack c.in-Lack.lack (subst IsOutside c.in-Lack.is outside)

pub returns-in-Lack-clause-unsound : goal.returns-in-Lack-clause-unsound
returns-in-Lack-clause-unsound c outside none = absurd (none c.in-Lack.lack c.in-Lack.is)

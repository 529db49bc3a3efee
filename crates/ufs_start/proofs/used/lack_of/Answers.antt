use Rattle.std.proofs.Common.{subst}
use Rattle.ufs_metadata.specs.Faults.{IsOutside}
use Rattle.ufs_start.proofs.used.lack_of.Goals as goal

pub returns-clause-lack : goal.returns-clause-lack
returns-clause-lack c = subst IsOutside c.in-Lack.is c.requires.outside

use Rattle.std.proofs.Common.{subst}
use Rattle.ufs_command.specs.Laws.{StandsAsBegun}
use Rattle.ufs_command.proofs.top.leave_words.Goals as goal

pub returns-clause-stands : goal.returns-clause-stands
returns-clause-stands g c = subst StandsAsBegun c.sectors.ensures c.unserved_law.ensures

use Rattle.ufs_start_laws.proofs.Opened.{starts_opened}
use Rattle.ufs_start_laws.proofs.mounting.start_law.Goals as goal

pub returns-clause-opened : goal.returns-clause-opened
returns-clause-opened c = starts_opened

pub returns-clause-named : goal.returns-clause-named
returns-clause-named c sectors disk s is = is.named

use Rattle.ufs_start.proofs.Copies.{begun_there, no_start_there}
use Rattle.ufs_start.proofs.Volumes.{opens_there}
use Rattle.ufs_start.proofs.laws.copy_law.Goals as goal

pub returns-clause-opens : goal.returns-clause-opens
returns-clause-opens c = opens_there

pub returns-clause-begins : goal.returns-clause-begins
returns-clause-begins c copied sectors copy image s p is begun = begun_there copied sectors copy image is s begun p

pub returns-clause-refused : goal.returns-clause-refused
returns-clause-refused c copied sectors copy image fault is = no_start_there copied sectors copy image is fault

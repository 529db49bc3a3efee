use Rattle.ufs_owner.proofs.OwnerFacts.{other_stays}
use Rattle.ufs_owner.proofs.law.other_files_stay.Goals as goal

pub returns : goal.returns
returns c = other_stays

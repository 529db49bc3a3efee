use Rattle.ufs_owner.proofs.OwnerFacts.{none_out}
use Rattle.ufs_owner.proofs.law.no_file_is_out.Goals as goal

pub returns : goal.returns
returns c = none_out

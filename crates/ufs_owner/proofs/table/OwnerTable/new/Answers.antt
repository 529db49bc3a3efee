use Rattle.std.proofs.Common.{refl}
use Rattle.ufs_owner.proofs.StepLemmas.{kept_empty}
use Rattle.ufs_owner.proofs.table.OwnerTable.new.Goals as goal

pub invariant_of-result : goal.invariant_of-result
invariant_of-result c = kept_empty c.new.result c.new.ensures _ refl

use Rattle.std.proofs.Common.{refl}
use Rattle.ufs_fds.proofs.SlotLemmas.{AreMarked-new, table_of-new}
use Rattle.ufs_fds.proofs.table.FdTable.new.Goals as goal

pub invariant_of-result : goal.invariant_of-result
invariant_of-result c = AreMarked-new _ refl

pub returns : goal.returns
returns c = table_of-new _ refl

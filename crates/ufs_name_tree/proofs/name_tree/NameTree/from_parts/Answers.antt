use Rattle.std.proofs.Common.{refl}
use Rattle.ufs_name_tree.proofs.name_tree.NameTree.from_parts.Goals as goal

pub invariant_of-result : goal.invariant_of-result
invariant_of-result c = c.requires _ refl refl

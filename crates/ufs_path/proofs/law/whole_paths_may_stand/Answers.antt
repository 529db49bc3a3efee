use Rattle.ufs_path.specs.Names.{IsName}
use Rattle.std.proofs.lemmas.List.Elements.{recursion_from_All}
use Rattle.ufs_path.proofs.NameLemmas.{whole_of_names}
use Rattle.ufs_path.proofs.law.whole_paths_may_stand.Goals as goal

pub returns : goal.returns
returns c = λ names each. whole_of_names names (recursion_from_All IsName names each)

use Rattle.ufs_path.specs.Names.{IsName}
use Rattle.std.proofs.lemmas.List.Elements.{recursion_from_All}
use Rattle.ufs_path.proofs.NameLemmas.{whole_allowed}
use Rattle.ufs_path.proofs.law.short_whole_paths_are_allowed.Goals as goal

pub returns : goal.returns
returns c = λ names each short. whole_allowed names (recursion_from_All IsName names each) short

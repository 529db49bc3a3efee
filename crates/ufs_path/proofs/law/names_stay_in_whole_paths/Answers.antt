use Rattle.ufs_path.specs.Names.{IsName}
use Rattle.ufs_model.proofs.Facts.Pieces.{components_of}
use Rattle.std.proofs.lemmas.List.Elements.{recursion_from_All}
use Rattle.ufs_path.proofs.NameLemmas.{names_plain}
use Rattle.ufs_path.proofs.law.names_stay_in_whole_paths.Goals as goal

pub returns : goal.returns
returns c = λ names each. components_of names (names_plain names (recursion_from_All IsName names each))

use Rattle.ufs_model.proofs.NewNameLemmas.{replaces, leaves}
use Rattle.ufs_model.proofs.laws.a_new_name_takes_the_place_of_an_old_one.Goals as goal

pub returns : goal.returns
returns c = record { there = replaces; gone = leaves }

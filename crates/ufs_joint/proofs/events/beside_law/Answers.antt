use Rattle.ufs_joint.proofs.Beside.{files_stay, names_stay}
use Rattle.ufs_joint.proofs.events.beside_law.Goals as goal

pub returns : goal.returns
returns c = record { files = files_stay c.a_file_is_explained_alone.ensures.untouched; names = names_stay c.a_file_is_explained_alone.ensures.untouched_names }

use Rattle.ufs_joint.proofs.More.{files_know, files_known_then, names_know, names_known_then}
use Rattle.ufs_joint.proofs.events.more_law.Goals as goal

pub returns : goal.returns
returns c = record { files = files_know; names = names_know; file_known = files_known_then; names_known = names_known_then }

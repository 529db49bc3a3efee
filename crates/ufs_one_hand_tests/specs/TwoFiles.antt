-- A session that starts from two files of one byte each. A client opens the first and reads it, over a disk that isn't visible.
use Rattle.std.specs.Prelude.{ℕ, true, false, List, [], ◌∷◌}
use Rattle.std.specs.FinMap as map
use Rattle.ufs_model.specs.PosixTree.{root}
use Rattle.ufs_model.specs.Start.{PathNodes}
use Rattle.ufs_model.specs.declared.data.Actor.TheVariants.{Primary}
use Rattle.ufs_model.specs.declared.data.Op.TheVariants.{OpenFile, Pread}
use Rattle.ufs_model.specs.declared.data.PathNode.TheVariants.{Dir, File}
use Rattle.ufs_model.specs.declared.data.Reply.TheVariants.{Fd, Got}
use Rattle.ufs_one_hand.specs.OneHand.{start_with}
use Rattle.ufs_hand_laws.specs.Parts.{Start}
use Rattle.ufs_hand_laws.specs.declared.fresh.Fresh.{Fresh}

-- `/f`
abbrev pub file_path : List ℕ
file_path = 47 ∷ 102 ∷ []

-- `/g`
abbrev pub other_path : List ℕ
other_path = 47 ∷ 103 ∷ []

abbrev pub file_nodes : PathNodes
file_nodes = map.from_entries ((root, Dir) ∷ (file_path, File (97 ∷ [])) ∷ (other_path, File (98 ∷ [])) ∷ [])

abbrev pub two_files : Start
two_files = start_with file_nodes

abbrev pub opens : Fresh
opens = record { client = 0; seq = 0; by = Primary; op = OpenFile file_path true false false false false false; reply = Fd 3 }

-- as the history has it: the byte is the file's
abbrev pub reads : Fresh
reads = record { client = 0; seq = 1; by = Primary; op = Pread 3 1 0; reply = Got (97 ∷ []) }

-- The files that a session on hands begins with, one after the other.
use Rattle.std.specs.Prelude.{List, map}
use Rattle.std.specs.FinMap as fin
use Rattle.ufs_file_commits.specs.State.{DurableState, state_of}
use Rattle.ufs_files.specs.Files.{Files}
use Rattle.ufs_noted.specs.declared.known.KnownFile.{KnownFile}
use Rattle.ufs_joint.specs.FirstHand.{file_first}

abbrev pub value_of : KnownFile → DurableState
value_of k = state_of k.hand k.commits

-- each committed as it is, by rising number
abbrev pub values_first : Files → List DurableState
values_first files = map (λ e. (file_first e.1).value) (fin.entries files)

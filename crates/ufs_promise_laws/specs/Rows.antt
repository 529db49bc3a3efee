-- A change whose records and names are known: the birth of `/f` on a new image of 256 blocks.
use Rattle.std.specs.Prelude.{◌≡◌, ◌==◌, List, [], ◌∷◌, if◌then◌else◌, Some}
use Rattle.std.specs.FinSet as set
use Rattle.ufs_layout.specs.DentryForm.{DentryForm}
use Rattle.ufs_layout.specs.declared.records.LogRecord.TheVariants.{Delta, Place}
use Rattle.ufs_dir_tree.specs.DirTable.{no_dir, found_at}
use Rattle.ufs_dir_tree.specs.declared.found.Found.TheVariants.{File}
use Rattle.ufs_dir_tree.specs.Steps.{DirState, Step, Born, Grown, Put, after_all}
use Rattle.ufs_promise_laws.specs.Steps.{records_of}

-- the root alone, inode 2 free, and block 14 zero
abbrev pub new_state : DirState
new_state = record { table = record { dirs = no_dir ∷ no_dir ∷ no_dir ∷ []; free = set.insert set.empty 2 }; kinds = λ inode. if inode == 1 then 2 else 0; zeroed = λ block. block == 14 }

abbrev pub dentry_f : DentryForm
dentry_f = record { inode = 2; kind = 1; name = 102 ∷ [] }

abbrev pub birth_of_f : List Step
birth_of_f = Grown 1 14 ∷ Born 2 1 ∷ Put 1 (record { sector = 112; slot = 0 }) dentry_f ∷ []

-- The root's delta, the file's delta, and the dentry in the first slot of block 14.
abbrev pub BirthIsNoted : Type 0
BirthIsNoted = records_of new_state birth_of_f ≡ Delta 1 2 4096 0 (record { start = 14; length = 1 } ∷ []) ∷ Delta 2 1 0 0 [] ∷ Place 112 0 dentry_f ∷ []

-- Then `f` stands in the root.
abbrev pub BirthIsMet : Type 0
BirthIsMet = found_at (after_all birth_of_f new_state).table ((102 ∷ []) ∷ []) ≡ Some (File 2)

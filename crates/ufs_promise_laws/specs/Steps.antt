-- The records of some steps, over the states that they are made in.
use Rattle.std.specs.Prelude.{List, [], ◌∷◌}
use Rattle.ufs_layout.specs.declared.records.LogRecord.{LogRecord}
use Rattle.ufs_dir_tree.specs.Steps.{DirState, Step, after}
use Rattle.ufs_name_tree.specs.Records as tables

abbrev pub record_of : DirState → Step → LogRecord
record_of s x = tables.record_of s.table x

abbrev pub records_of : DirState → List Step → List LogRecord
records_of s [] = []
records_of s (x ∷ xs) = record_of s x ∷ records_of (after x s) xs

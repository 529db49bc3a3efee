-- What a server's notes of its names say to a disk.
use Rattle.std.specs.Prelude.{◌≡◌, ◌+◌, List, length}
use Rattle.ufs_layout.specs.declared.geometry.Geometry.{Geometry}
use Rattle.ufs_dir_tree.specs.Steps.{DirState, Step, after_all, table_after_all}
use Rattle.ufs_name_tree.specs.Notes.{MayNoteAll}
use Rattle.ufs_name_tree.specs.Records as tables
use Rattle.ufs_promise_laws.specs.Held.{MaySteps}
use Rattle.ufs_promise_laws.specs.Steps.{records_of}

-- Steps that may be noted may be made on a disk that has an inode for each of the table.
abbrev pub NotedMayBeMade : Geometry → Type 0
NotedMayBeMade g = (s : DirState) (xs : List Step) → length s.table.dirs ≡ g.inodes + 1 → MayNoteAll s xs → MaySteps g s xs

-- The records that are noted are those of the steps,
abbrev pub NotesAreRecords : Type 0
NotesAreRecords = (s : DirState) (xs : List Step) → tables.records_of s.table xs ≡ records_of s xs

-- and the directories that they lead to those of the state behind them.
abbrev pub NotesLeadOn : Type 0
NotesLeadOn = (s : DirState) (xs : List Step) → table_after_all xs s.table ≡ (after_all xs s).table

-- Which changes of files and of names a history has, and which of them it acknowledges.
use Rattle.std.specs.Prelude.{ℕ, List, [], ◌∷◌, Bool, true, false, ◌&&◌, ◌||◌, ◌==◌, not, length, slice_index_or, if◌then◌else◌, Option, None, is_none, refl}
use Rattle.std.specs.List.{flat_map, list_any}
use Rattle.std.specs.Str.{bytes_eq}
use Rattle.std.specs.FinMap as map
use Rattle.std.specs.Coded.{Coded, code_by, coded×, coded_ℕ, coded_list}
use Rattle.ufs_model.specs.Paths.{whole_of}
use Rattle.ufs_model.specs.PosixTree.{PosixTree, Paths, is_number}
use Rattle.ufs_model.specs.Walk.{node_at, file_of}
use Rattle.ufs_model.specs.Descriptors.{opened}
use Rattle.ufs_model.specs.FileBytes.{place_of}
use Rattle.ufs_model.specs.Posix.{file_bytes}
use Rattle.ufs_model.specs.History.{goes_on}
use Rattle.ufs_model.specs.declared.data.Op.{Op}
use Rattle.ufs_model.specs.declared.data.Op.TheVariants as op
use Rattle.ufs_model.specs.declared.data.Entry.{Entry}
use Rattle.ufs_model.specs.contracts.data.Node as node
use Rattle.ufs_crash_laws.specs.Steps.{Step, steps, is_served, is_ok, before_last}
use Rattle.ufs_crash_laws.specs.declared.data.FileChange.{FileChange}
use Rattle.ufs_crash_laws.specs.declared.data.FileChange.TheVariants as change

-- ---- of a file

-- the file that a request may change
abbrev pub file_changed : PosixTree → ℕ → Op → Option ℕ
file_changed t client (op.OpenFile path read write creat excl trunc append) = file_of (node_at t.paths path)
file_changed t client (op.Write fd bytes) = (opened t client fd).file
file_changed t client (op.Pwrite fd bytes at) = (opened t client fd).file
file_changed t client (op.Trunc fd size) = (opened t client fd).file
file_changed t client _ = None

-- bytes from a place on; no byte changes nothing
abbrev pub written_at : ℕ → List ℕ → List FileChange
written_at at bytes = if length bytes == 0 then [] else change.Written at bytes ∷ []

-- its change by a request that is served, or none
abbrev pub change_asked : PosixTree → ℕ → Op → List FileChange
change_asked t client (op.OpenFile path read write creat excl trunc append) = if trunc then change.Resized 0 ∷ [] else []
change_asked t client (op.Write fd bytes) = written_at (place_of (opened t client fd) (file_bytes t client fd)) bytes
change_asked t client (op.Pwrite fd bytes at) = written_at at bytes
change_asked t client (op.Trunc fd size) = change.Resized size ∷ []
change_asked t client _ = []

-- a file's change by a step, or none
abbrev pub change_of : ℕ → Step → List FileChange
change_of file s =
    if is_served s.entry.reply && is_number file (file_changed s.before s.entry.client s.entry.op) then change_asked s.before s.entry.client s.entry.op
    else []

-- a file's changes
abbrev pub changes_of : ℕ → PosixTree → List Entry → List FileChange
changes_of file start history = flat_map (change_of file) (steps start history)

-- ---- of names

-- what stands at each path, and the number of the next file
pub record NameState : Type 0 where
  pub paths : Paths
  pub next : ℕ

abbrev pub names_code : Coded NameState
names_code = code_by (Paths × ℕ) (coded× (map.code (coded_list coded_ℕ) node.the_row.coded) coded_ℕ) (λ n. (n.paths, n.next)) (λ p. record { paths = p.0; next = p.1 }) (λ _. refl)

abbrev pub names_of : PosixTree → NameState
names_of t = record { paths = t.paths; next = t.next }

-- a request that is served changes what stands at some path
abbrev pub changes_names : PosixTree → Op → Bool
changes_names t (op.OpenFile path read write creat excl trunc append) = is_none (node_at t.paths path)
changes_names t (op.Mkdir path) = true
changes_names t (op.Rmdir path) = true
changes_names t (op.Unlink path) = true
changes_names t (op.Rename from to) = not (bytes_eq (whole_of from) (whole_of to))
changes_names t _ = false

-- the names after a step that changes them, or none
abbrev pub names_by : Step → List NameState
names_by s =
    if is_served s.entry.reply && changes_names s.before s.entry.op then names_of (goes_on s.before s.entry) ∷ []
    else []

-- the names after each of their changes
abbrev pub name_changes : PosixTree → List Entry → List NameState
name_changes start history = flat_map names_by (steps start history)

-- the names after the first so many of their changes
abbrev pub names_after : PosixTree → List Entry → ℕ → NameState
names_after start history count = slice_index_or (names_of start ∷ name_changes start history) count (names_of start)

-- ---- what is acknowledged

abbrev pub asks_sync : Op → Bool
asks_sync op.Sync = true
asks_sync _ = false

abbrev pub asks_dir_fsync : PosixTree → ℕ → Op → Bool
asks_dir_fsync t client (op.Fsync fd) = is_none (opened t client fd).file
asks_dir_fsync t client _ = false

abbrev pub asks_fsync : ℕ → PosixTree → ℕ → Op → Bool
asks_fsync file t client (op.Fsync fd) = is_number file (opened t client fd).file
asks_fsync file t client _ = false

-- a request whose reply `ok` acknowledges changes
abbrev pub asks_commit : Op → Bool
asks_commit (op.Fsync fd) = true
asks_commit op.Sync = true
asks_commit _ = false

-- an acknowledged `fsync` of the file
abbrev pub is_fsync_of : ℕ → Step → Bool
is_fsync_of file s = is_ok s.entry.reply && asks_fsync file s.before s.entry.client s.entry.op

-- an acknowledged `fsync` of the file, or `sync`
abbrev pub syncs_file : ℕ → Step → Bool
syncs_file file s = is_ok s.entry.reply && (asks_fsync file s.before s.entry.client s.entry.op || asks_sync s.entry.op)

-- an acknowledged `fsync` of a directory, or `sync`
abbrev pub syncs_names : Step → Bool
syncs_names s = is_ok s.entry.reply && (asks_dir_fsync s.before s.entry.client s.entry.op || asks_sync s.entry.op)

-- the changes of a file before the last that syncs it
abbrev pub file_synced : ℕ → PosixTree → List Entry → ℕ
file_synced file start history = before_last (syncs_file file) (λ s. length (change_of file s)) (steps start history)

-- the changes of names before the last that syncs them
abbrev pub names_synced : PosixTree → List Entry → ℕ
names_synced start history = before_last syncs_names (λ s. length (names_by s)) (steps start history)

-- the history has an acknowledged `fsync` of the file
abbrev pub is_fsynced : ℕ → PosixTree → List Entry → Bool
is_fsynced file start history = list_any (is_fsync_of file) (steps start history)

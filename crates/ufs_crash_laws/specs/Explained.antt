-- Which trees a crash may leave after a history.
use Rattle.std.specs.Prelude.{ℕ, ◌≡◌, ◌≤◌, ◌<◌, List, true, length, take, Option, Some, None, ⊤}
use Rattle.std.specs.FinMap as map
use Rattle.ufs_model.specs.PosixTree.{PosixTree, Paths}
use Rattle.ufs_model.specs.FileBytes.{bytes_of}
use Rattle.ufs_model.specs.Start.{PathNodes}
use Rattle.ufs_model.specs.declared.data.Entry.{Entry}
use Rattle.ufs_model.specs.declared.data.Node.{Node}
use Rattle.ufs_model.specs.declared.data.Node.TheVariants.{Dir, File}
use Rattle.ufs_model.specs.declared.data.PathNode.{PathNode}
use Rattle.ufs_model.specs.declared.data.PathNode.TheVariants as path_node
use Rattle.ufs_crash_laws.specs.FileChanges.{IsShown}
use Rattle.ufs_crash_laws.specs.Steps.{next_step}
use Rattle.ufs_crash_laws.specs.Changes.{changes_of, name_changes, names_after, is_fsync_of, syncs_file, syncs_names, file_synced, names_synced, is_fsynced}
use Rattle.ufs_crash_laws.specs.declared.data.FileChange.{FileChange}

-- ---- a tree in place of numbers

-- At a path stands the same in both: nothing, a directory, or a file with bytes that its number allows.
abbrev pub IsNodeWith : (ℕ → List ℕ → Type 0) → Option Node → Option PathNode → Type 0
IsNodeWith Has None None = ⊤
IsNodeWith Has (Some Dir) (Some path_node.Dir) = ⊤
IsNodeWith Has (Some (File file)) (Some (path_node.File bytes)) = Has file bytes
IsNodeWith Has _ _ = ⊥

-- The tree has these paths, with directories and files in the same places, and in each file what its number allows.
abbrev pub IsTreeWith : (ℕ → List ℕ → Type 0) → Paths → PathNodes → Type 0
IsTreeWith Has paths tree = (path : List ℕ) → IsNodeWith Has (map.get paths path) (map.get tree path)

-- ---- explained

-- For some number of its changes, those that are synced among them, the file may show these bytes.
pub record ShowsSynced (opening : List ℕ) (changes : List FileChange) (synced : ℕ) (bytes : List ℕ) : Type 0 where
  pub count : ℕ
  pub covers : synced ≤ count
  pub shown : IsShown opening changes count bytes

-- The tree shows a prefix of the changes of names, and in each file a prefix of that file's changes. Each covers what is
-- acknowledged: the changes before the last that syncs them, and the birth of each file that has an `fsync`.
pub record IsExplained (tree : PathNodes) (start : PosixTree) (history : List Entry) : Type 0 where
  pub names : ℕ
  pub made : names ≤ length (name_changes start history)
  pub synced : names_synced start history ≤ names
  pub born : (file : ℕ) → is_fsynced file start history ≡ true → file < (names_after start history names).next
  pub shown : IsTreeWith (λ file bytes. ShowsSynced (bytes_of start.bytes file) (changes_of file start history) (file_synced file start history) bytes) (names_after start history names).paths tree

-- ---- the same with given numbers

-- a file shows so many of its changes
abbrev pub IsFileShown : PosixTree → List Entry → (ℕ → ℕ) → ℕ → List ℕ → Type 0
IsFileShown start history files file bytes = IsShown (bytes_of start.bytes file) (changes_of file start history) (files file) bytes

-- The tree shows so many changes of names, and of each file so many of its own.
pub record IsShownBy (start : PosixTree) (history : List Entry) (names : ℕ) (files : ℕ → ℕ) (tree : PathNodes) : Type 0 where
  pub made : names ≤ length (name_changes start history)
  pub shown : IsTreeWith (IsFileShown start history files) (names_after start history names).paths tree

-- So many changes of names, and of each file, cover what is acknowledged.
pub record IsCovering (start : PosixTree) (history : List Entry) (names : ℕ) (files : ℕ → ℕ) : Type 0 where
  pub synced : names_synced start history ≤ names
  pub born : (file : ℕ) → is_fsynced file start history ≡ true → file < (names_after start history names).next
  pub each : (file : ℕ) → file_synced file start history ≤ files file

-- ---- while entries are drawn

-- What the next entry acknowledges is covered.
pub record IsAckCovered (start : PosixTree) (history : List Entry) (entry : Entry) (names : ℕ) (files : ℕ → ℕ) : Type 0 where
  pub synced : syncs_names (next_step start history entry) ≡ true → length (name_changes start history) ≤ names
  pub born : (file : ℕ) → is_fsync_of file (next_step start history entry) ≡ true → file < (names_after start history names).next
  pub each : (file : ℕ) → syncs_file file (next_step start history entry) ≡ true → length (changes_of file start history) ≤ files file

-- It is explained by the first entries, for each number of them between two.
abbrev pub IsExplainedFrom : PathNodes → PosixTree → List Entry → ℕ → ℕ → Type 0
IsExplainedFrom tree start history from to = (count : ℕ) → from ≤ count → count ≤ to → IsExplained tree start (take count history)

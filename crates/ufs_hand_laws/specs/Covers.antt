-- Which numbers of changes cover what a history acknowledges.
use Rattle.std.specs.Prelude.{ℕ, ◌≤◌, ◌<◌, ◌≡◌, ◌⊎◌, ◌↔◌, ◌||◌, true, List, ◌∷◌, ◌++◌, length, is_some}
use Rattle.std.specs.FinMap as map
use Rattle.ufs_model.specs.PosixTree.{PosixTree, IsTree}
use Rattle.ufs_model.specs.History.{IsLegal, tree_after}
use Rattle.ufs_model.specs.declared.data.Op.{Op}
use Rattle.ufs_model.specs.declared.data.Reply.TheVariants as reply
use Rattle.ufs_model.specs.declared.data.Entry.{Entry}
use Rattle.ufs_crash_laws.specs.Steps.{Step}
use Rattle.ufs_crash_laws.specs.Changes.{changes_of, name_changes, names_after, asks_sync, asks_dir_fsync, asks_fsync, file_synced, names_synced, is_fsynced}
use Rattle.ufs_crash_laws.specs.Stored.{IsNamed}

-- an entry, drawn in a tree
abbrev pub step_in : PosixTree → Entry → Step
step_in t entry = record { before = t; entry = entry }

-- ---- what a request asks

-- that the changes of a file last: of the file that is open, or of each that is there
abbrev pub SyncsFile : PosixTree → ℕ → Op → ℕ → Type 0
SyncsFile t client request file = (asks_fsync file t client request ≡ true) ⊎ ((asks_sync request ≡ true) × (is_some (map.get t.bytes file) ≡ true))

-- that the changes of names last
abbrev pub SyncsNames : PosixTree → ℕ → Op → Type 0
SyncsNames t client request = (asks_dir_fsync t client request || asks_sync request) ≡ true

-- that a file's birth lasts
abbrev pub SyncsBirth : PosixTree → ℕ → Op → ℕ → Type 0
SyncsBirth t client request file = asks_fsync file t client request ≡ true

-- ---- numbers that cover it

-- The first k changes of the file are at least those before each acknowledgement that was given while it was there.
abbrev pub CoversFile : PosixTree → List Entry → ℕ → ℕ → Type 0
CoversFile start history file k = (a b : List Entry) (entry : Entry) → history ≡ a ++ entry ∷ b → entry.reply ≡ reply.Done
    → SyncsFile (tree_after start a) entry.client entry.op file → length (changes_of file start a) ≤ k

-- the first k changes of names are at least those before each acknowledgement
abbrev pub CoversNames : PosixTree → List Entry → ℕ → Type 0
CoversNames start history k = names_synced start history ≤ k

-- the file was made before the first k changes of names, or by one of them
abbrev pub IsBornBy : PosixTree → List Entry → ℕ → ℕ → Type 0
IsBornBy start history file k = file < (names_after start history k).next

-- each file that has an acknowledged `fsync` was
abbrev pub CoversBirths : PosixTree → List Entry → ℕ → Type 0
CoversBirths start history k = (file : ℕ) → is_fsynced file start history ≡ true → IsBornBy start history file k

-- ---- what that is

-- For a file that is named after so many changes of names, which cover what is acknowledged of names, the relation asks for
-- the changes before the last that syncs the file: also a `sync` that was given while the file wasn't there.
abbrev pub CoversAsSynced : Type 0
CoversAsSynced = (start : PosixTree) (history : List Entry) (names file k : ℕ) → IsTree start → IsLegal start history → CoversNames start history names → names ≤ length (name_changes start history)
    → IsNamed (names_after start history names).paths file → (CoversFile start history file k ↔ (file_synced file start history ≤ k))

-- What it means that a history explains a tree, apart from its definition.
use Rattle.std.specs.Prelude.{ℕ, ◌≡◌, ◌≤◌, ◌<◌, ◌↔◌, List, [], ◌∷◌, ◌++◌, length, take, drop, true, Some}
use Rattle.std.specs.FinMap as map
use Rattle.ufs_model.specs.PosixTree.{PosixTree, IsTree}
use Rattle.ufs_model.specs.FileBytes.{bytes_of}
use Rattle.ufs_model.specs.Start.{PathNodes, HasContents}
use Rattle.ufs_model.specs.History.{IsLegal, IsReplyTo, goes_on, tree_after}
use Rattle.ufs_model.specs.declared.data.Op.TheVariants as op
use Rattle.ufs_model.specs.declared.data.Reply.TheVariants as reply
use Rattle.ufs_model.specs.declared.data.Entry.{Entry}
use Rattle.ufs_model.specs.declared.data.Node.TheVariants.{File}
use Rattle.ufs_model.specs.declared.data.PathNode.TheVariants as path_node
use Rattle.ufs_crash_laws.specs.FileChanges.{MayShow, bytes_after, byte_at}
use Rattle.ufs_crash_laws.specs.Places.{left_by, may_show, IsOneOf}
use Rattle.ufs_crash_laws.specs.Steps.{next_step}
use Rattle.ufs_crash_laws.specs.Changes.{names_of, changes_of, names_by, name_changes, names_after, is_fsync_of, is_fsynced, syncs_file, syncs_names, file_synced, names_synced}
use Rattle.ufs_crash_laws.specs.Explained.{ShowsSynced, IsExplained, IsShownBy, IsCovering, IsExplainedFrom}
use Rattle.ufs_crash_laws.specs.declared.data.FileChange.{FileChange}

-- ---- what the changes are

-- At each moment of a history the names are those after the changes of names made by then.
abbrev pub NamesGoByChanges : Type 0
NamesGoByChanges = (start : PosixTree) (history more : List Entry) → IsLegal start history
    → names_after start (history ++ more) (length (name_changes start history)) ≡ names_of (tree_after start history)

-- And a file that has bytes has those after its changes made by then.
abbrev pub BytesGoByChanges : Type 0
BytesGoByChanges = (start : PosixTree) (history more : List Entry) (file : ℕ) (bytes : List ℕ) → IsTree start → IsLegal start history → map.get (tree_after start history).bytes file ≡ Some bytes
    → bytes_after (bytes_of start.bytes file) (changes_of file start (history ++ more)) (length (changes_of file start history)) ≡ bytes

-- An entry leaves the paths exactly where it is no change of names.
abbrev pub NameChangesAreExact : Type 0
NameChangesAreExact = (t : PosixTree) (entry : Entry) → IsTree t → IsReplyTo t entry → (names_by (record { before = t; entry = entry }) ≡ [] ↔ ((goes_on t entry).paths ≡ t.paths))

-- A number covers a file's synced changes exactly where it covers, for each acknowledged `fsync` of the file and each
-- `sync`, the changes before it.
abbrev pub SyncsCountFiles : Type 0
SyncsCountFiles = (start : PosixTree) (history : List Entry) (file count : ℕ)
    → (file_synced file start history ≤ count ↔ ((before later : List Entry) (entry : Entry) → history ≡ before ++ entry ∷ later → syncs_file file (next_step start before entry) ≡ true → length (changes_of file start before) ≤ count))

-- And so for the changes of names, with each acknowledged `fsync` of a directory in place of those of the file.
abbrev pub SyncsCountNames : Type 0
SyncsCountNames = (start : PosixTree) (history : List Entry) (count : ℕ)
    → (names_synced start history ≤ count ↔ ((before later : List Entry) (entry : Entry) → history ≡ before ++ entry ∷ later → syncs_names (next_step start before entry) ≡ true → length (name_changes start before) ≤ count))

-- A place may show the byte after so many changes, the byte of each later write, and 0 where a later change cuts it off or
-- covers it by a gap or an extension; and nothing else.
abbrev pub PlacesShowChanges : Type 0
PlacesShowChanges = (opening : List ℕ) (changes : List FileChange) (count place byte : ℕ) → count ≤ length changes
    → (MayShow opening changes count place byte ↔ IsOneOf (may_show opening changes count place) byte)

-- What is synced stands where no later change reaches it,
abbrev pub SyncedBytesStand : Type 0
SyncedBytesStand = (opening : List ℕ) (changes : List FileChange) (synced : ℕ) (bytes : List ℕ) (place : ℕ) → ShowsSynced opening changes synced bytes
    → left_by (bytes_after opening changes synced) (drop synced changes) place ≡ [] → place < length bytes → byte_at bytes place ≡ byte_at (bytes_after opening changes synced) place

-- and a file is never shown shorter than it was at its shortest since.
abbrev pub SyncedSizesStand : Type 0
SyncedSizesStand = (opening : List ℕ) (changes : List FileChange) (synced least : ℕ) (bytes : List ℕ) → ShowsSynced opening changes synced bytes
    → ((count : ℕ) → synced ≤ count → count ≤ length changes → least ≤ length (bytes_after opening changes count)) → least ≤ length bytes

-- ---- what is explained

-- Numbers that cover what is acknowledged explain each tree that shows them.
abbrev pub NumbersExplain : Type 0
NumbersExplain = (start : PosixTree) (history : List Entry) (names : ℕ) (files : ℕ → ℕ) (tree : PathNodes) → IsCovering start history names files → IsShownBy start history names files tree → IsExplained tree start history

-- the opening tree before any entry
abbrev pub OpeningsAreExplained : Type 0
OpeningsAreExplained = (start : PosixTree) (tree : PathNodes) → IsTree start → HasContents start tree → IsExplained tree start []

-- the last tree after all of them
abbrev pub EndsAreExplained : Type 0
EndsAreExplained = (start : PosixTree) (history : List Entry) (tree : PathNodes) → IsTree start → IsLegal start history → HasContents (tree_after start history) tree → IsExplained tree start history

-- What shows so many changes after the first entries, by numbers that cover what is acknowledged by more of them, is
-- explained by each number of entries between.
abbrev pub ExplainedMeanwhile : Type 0
ExplainedMeanwhile = (start : PosixTree) (history : List Entry) (from to : ℕ) (names : ℕ) (files : ℕ → ℕ) (tree : PathNodes) → IsShownBy start (take from history) names files tree
    → IsCovering start (take to history) names files → IsExplainedFrom tree start history from to

-- Stretches of entries by which a tree is explained join,
abbrev pub StretchesJoin : Type 0
StretchesJoin = (start : PosixTree) (history : List Entry) (from mid to : ℕ) (tree : PathNodes) → IsExplainedFrom tree start history from mid → IsExplainedFrom tree start history mid to → IsExplainedFrom tree start history from to

-- and entries behind them don't matter.
abbrev pub LaterEntriesDoNotMatter : Type 0
LaterEntriesDoNotMatter = (start : PosixTree) (history more : List Entry) (from to : ℕ) (tree : PathNodes) → to ≤ length history → IsExplainedFrom tree start history from to → IsExplainedFrom tree start (history ++ more) from to

-- ---- what an acknowledgement leaves open

-- Right after an acknowledged `sync` the tree itself is explained, and no other.
abbrev pub SyncsAreExact : Type 0
SyncsAreExact = (start : PosixTree) (history : List Entry) (entry : Entry) (tree : PathNodes) → IsTree start → IsLegal start (history ++ entry ∷ [])
    → entry.op ≡ op.Sync → entry.reply ≡ reply.Done → (IsExplained tree start (history ++ entry ∷ []) ↔ HasContents (tree_after start (history ++ entry ∷ [])) tree)

-- Right after an acknowledged `fsync` the file has its bytes, at each path where it is shown.
abbrev pub FsyncsAreExact : Type 0
FsyncsAreExact = (start : PosixTree) (history : List Entry) (entry : Entry) (file : ℕ) (tree : PathNodes) → IsTree start → IsLegal start (history ++ entry ∷ [])
    → is_fsync_of file (record { before = tree_after start history; entry = entry }) ≡ true
    → (is : IsExplained tree start (history ++ entry ∷ [])) (path : List ℕ) → map.get (names_after start (history ++ entry ∷ []) is.names).paths path ≡ Some (File file)
    → map.get tree path ≡ Some (path_node.File (bytes_of (tree_after start history).bytes file))

-- A file that has an acknowledged `fsync` is there at a path that names it from its birth on,
abbrev pub FsyncedFilesAreThere : Type 0
FsyncedFilesAreThere = (start : PosixTree) (history : List Entry) (file : ℕ) (path : List ℕ) (tree : PathNodes) → IsExplained tree start history → is_fsynced file start history ≡ true
    → ((count : ℕ) → count ≤ length (name_changes start history) → file < (names_after start history count).next → map.get (names_after start history count).paths path ≡ Some (File file))
    → (bytes : List ℕ) × (map.get tree path ≡ Some (path_node.File bytes))

-- and wherever a file is, it has the bytes that were synced, but at places that a change after them reaches.
abbrev pub SyncedBytesAreThere : Type 0
SyncedBytesAreThere = (start : PosixTree) (history : List Entry) (file : ℕ) (path : List ℕ) (tree : PathNodes) (is : IsExplained tree start history) (bytes : List ℕ)
    → map.get (names_after start history is.names).paths path ≡ Some (File file) → map.get tree path ≡ Some (path_node.File bytes) → (place : ℕ) → place < length bytes
    → left_by (bytes_after (bytes_of start.bytes file) (changes_of file start history) (file_synced file start history)) (drop (file_synced file start history) (changes_of file start history)) place ≡ []
    → byte_at bytes place ≡ byte_at (bytes_after (bytes_of start.bytes file) (changes_of file start history) (file_synced file start history)) place

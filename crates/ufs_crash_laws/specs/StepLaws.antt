-- How a tree stays explained, while entries are drawn and a disk is written.
use Rattle.std.specs.Prelude.{ℕ, ◌≡◌, ◌≤◌, ◌<◌, ◌⊎◌, List, [], ◌∷◌, ◌++◌, length, take, false, Some, None}
use Rattle.std.specs.FinMap as map
use Rattle.ufs_model.specs.PosixTree.{PosixTree, Paths, IsTree}
use Rattle.ufs_model.specs.Descriptors.{opened}
use Rattle.ufs_model.specs.FileBytes.{bytes_of}
use Rattle.ufs_model.specs.Start.{PathNodes}
use Rattle.ufs_model.specs.Touched.{IsPartOf, touched_parts}
use Rattle.ufs_model.specs.Laws.{AgreeOn}
use Rattle.ufs_model.specs.History.{IsLegal, IsReplyTo, tree_after}
use Rattle.ufs_model.specs.declared.data.Entry.{Entry}
use Rattle.ufs_model.specs.declared.data.Node.TheVariants.{File}
use Rattle.ufs_model.specs.declared.data.Op.TheVariants as op
use Rattle.ufs_model.specs.declared.data.PartName.TheVariants as part
use Rattle.ufs_model.specs.declared.data.PathNode.TheVariants as path_node
use Rattle.ufs_crash_laws.specs.FileChanges.{all_changed, byte_at, IsShown}
use Rattle.ufs_crash_laws.specs.Steps.{is_ok}
use Rattle.ufs_crash_laws.specs.Changes.{change_of, changes_of, names_by, name_changes, names_after, asks_commit, file_synced}
use Rattle.ufs_crash_laws.specs.Explained.{IsTreeWith, ShowsSynced, IsExplained, IsFileShown, IsShownBy, IsCovering, IsAckCovered, IsExplainedFrom}
use Rattle.ufs_crash_laws.specs.Stored.{IsNamed, IsStored, IsKept}
use Rattle.ufs_crash_laws.specs.declared.data.FileChange.{FileChange}

-- ---- one more entry

-- What is shown by numbers is shown by them after any entry.
abbrev pub EntriesKeepShown : Type 0
EntriesKeepShown = (start : PosixTree) (history : List Entry) (entry : Entry) (names : ℕ) (files : ℕ → ℕ) (tree : PathNodes) → IsShownBy start history names files tree → IsShownBy start (history ++ entry ∷ []) names files tree

-- Numbers that cover what is acknowledged cover it after an entry whose own acknowledgement they cover.
abbrev pub EntriesKeepCovering : Type 0
EntriesKeepCovering = (start : PosixTree) (history : List Entry) (entry : Entry) (names : ℕ) (files : ℕ → ℕ) → IsCovering start history names files → names ≤ length (name_changes start history)
    → IsAckCovered start history entry names files → IsCovering start (history ++ entry ∷ []) names files

-- An entry acknowledges nothing where its reply isn't `ok`, or its request is no `fsync` and no `sync`.
abbrev pub OthersAcknowledgeNothing : Type 0
OthersAcknowledgeNothing = (start : PosixTree) (history : List Entry) (entry : Entry) (names : ℕ) (files : ℕ → ℕ) → (is_ok entry.reply ≡ false) ⊎ (asks_commit entry.op ≡ false) → IsAckCovered start history entry names files

-- An `fsync` of a file acknowledges that file's changes so far and its birth.
abbrev pub FsyncsAcknowledge : Type 0
FsyncsAcknowledge = (start : PosixTree) (history : List Entry) (entry : Entry) (names : ℕ) (files : ℕ → ℕ) (fd file : ℕ) → entry.op ≡ op.Fsync fd → (opened (tree_after start history) entry.client fd).file ≡ Some file
    → length (changes_of file start history) ≤ files file → file < (names_after start history names).next → IsAckCovered start history entry names files

-- An `fsync` of a directory acknowledges the changes of names so far.
abbrev pub DirFsyncsAcknowledge : Type 0
DirFsyncsAcknowledge = (start : PosixTree) (history : List Entry) (entry : Entry) (names : ℕ) (files : ℕ → ℕ) (fd : ℕ) → entry.op ≡ op.Fsync fd → (opened (tree_after start history) entry.client fd).file ≡ None
    → length (name_changes start history) ≤ names → IsAckCovered start history entry names files

-- A `sync` acknowledges all changes so far.
abbrev pub SyncsAcknowledge : Type 0
SyncsAcknowledge = (start : PosixTree) (history : List Entry) (entry : Entry) (names : ℕ) (files : ℕ → ℕ) → entry.op ≡ op.Sync
    → length (name_changes start history) ≤ names → ((file : ℕ) → length (changes_of file start history) ≤ files file) → IsAckCovered start history entry names files

-- ---- one file by itself

-- the trees differ at most where a path names the file
abbrev pub IsSameBut : Paths → ℕ → PathNodes → PathNodes → Type 0
IsSameBut paths file old new = (path : List ℕ) → (map.get new path ≡ map.get old path) ⊎ (map.get paths path ≡ Some (File file))

-- where a path names the file, the tree has a file with bytes that are allowed
abbrev pub HasFileWith : (List ℕ → Type 0) → Paths → ℕ → PathNodes → Type 0
HasFileWith Has paths file tree = (path : List ℕ) → map.get paths path ≡ Some (File file) → (bytes : List ℕ) × (map.get tree path ≡ Some (path_node.File bytes)) × Has bytes

-- A tree stays explained where a file gets other bytes that its own changes allow, whatever the other files show.
abbrev pub FilesAreExplainedAlone : Type 0
FilesAreExplainedAlone = (start : PosixTree) (history : List Entry) (file : ℕ) (old new : PathNodes) (is : IsExplained old start history) → IsSameBut (names_after start history is.names).paths file old new
    → HasFileWith (ShowsSynced (bytes_of start.bytes file) (changes_of file start history) (file_synced file start history)) (names_after start history is.names).paths file new → IsExplained new start history

-- An entry that doesn't touch a file is no change of it,
abbrev pub UntouchedFilesStay : Type 0
UntouchedFilesStay = (t : PosixTree) (entry : Entry) (file : ℕ) → IsReplyTo t entry → (IsPartOf (touched_parts t entry.client entry.op) (part.File file) → ⊥) → change_of file (record { before = t; entry = entry }) ≡ []

-- and one that doesn't touch the names is no change of them.
abbrev pub UntouchedNamesStay : Type 0
UntouchedNamesStay = (t : PosixTree) (entry : Entry) → IsReplyTo t entry → (IsPartOf (touched_parts t entry.client entry.op) part.Names → ⊥) → names_by (record { before = t; entry = entry }) ≡ []

-- Two trees that agree on what an entry touches tell the same changes by it.
abbrev pub ChangesAreLocal : Type 0
ChangesAreLocal = (t u : PosixTree) (entry : Entry) → IsTree t → IsTree u → IsReplyTo t entry → AgreeOn (touched_parts t entry.client entry.op) t u
    → ((file : ℕ) → change_of file (record { before = t; entry = entry }) ≡ change_of file (record { before = u; entry = entry })) × (names_by (record { before = t; entry = entry }) ≡ names_by (record { before = u; entry = entry }))

-- ---- commits

-- A commit of a file: the tree afterwards shows more changes of that file, and all else as before.
abbrev pub FileCommitsAreShown : Type 0
FileCommitsAreShown = (start : PosixTree) (history : List Entry) (names : ℕ) (files more : ℕ → ℕ) (file : ℕ) (old new : PathNodes) → ((other : ℕ) → (other ≡ file) ⊎ (files other ≡ more other))
    → IsSameBut (names_after start history names).paths file old new → HasFileWith (IsFileShown start history more file) (names_after start history names).paths file new
    → IsShownBy start history names files old → IsShownBy start history names more new

-- A commit of names: the disk has in each file what it had, also in those that only later names have; so the trees before
-- and after show the old and the new number of changes of names, and in each file the same changes.
abbrev pub NameCommitsAreShown : Type 0
NameCommitsAreShown = (start : PosixTree) (history : List Entry) (names more : ℕ) (files : ℕ → ℕ) (content : ℕ → List ℕ) (old new : PathNodes) → names ≤ more → more ≤ length (name_changes start history)
    → IsStored start history names files content
    → IsTreeWith (λ file bytes. bytes ≡ content file) (names_after start history names).paths old → IsTreeWith (λ file bytes. bytes ≡ content file) (names_after start history more).paths new
    → IsShownBy start history names files old × IsShownBy start history more files new

-- The tree before a commit and the one after it are both explained meanwhile: by each number of entries from those that
-- made the changes to those whose acknowledgements the numbers before cover.
abbrev pub CommitsAreExplained : Type 0
CommitsAreExplained = (start : PosixTree) (history : List Entry) (from to names more : ℕ) (files others : ℕ → ℕ) (old new : PathNodes) → IsTree start → IsLegal start history
    → names ≤ more → ((file : ℕ) → files file ≤ others file) → IsCovering start (take to history) names files
    → IsShownBy start (take from history) names files old → IsShownBy start (take from history) more others new
    → IsExplainedFrom old start history from to × IsExplainedFrom new start history from to

-- ---- bytes that are written back early

-- each place has what it had, or what the file has now
abbrev pub IsWrittenBack : List ℕ → List ℕ → List ℕ → Type 0
IsWrittenBack now before after = (length after ≡ length before) × ((place : ℕ) → place < length after → (byte_at after place ≡ byte_at before place) ⊎ (byte_at after place ≡ byte_at now place))

-- They are explained by the old number of the file's changes.
abbrev pub WrittenBackIsShown : Type 0
WrittenBackIsShown = (opening : List ℕ) (changes : List FileChange) (count : ℕ) (before after : List ℕ) → IsShown opening changes count before → IsWrittenBack (all_changed opening changes) before after → IsShown opening changes count after

-- So a tree in which files are written back shows the old numbers.
abbrev pub WrittenBackTreesAreShown : Type 0
WrittenBackTreesAreShown = (start : PosixTree) (history : List Entry) (names : ℕ) (files : ℕ → ℕ) (old new : PathNodes)
    → ((path : List ℕ) → (map.get new path ≡ map.get old path) ⊎ ((before : List ℕ) × (after : List ℕ) × (map.get old path ≡ Some (path_node.File before)) × (map.get new path ≡ Some (path_node.File after))
    × ((file : ℕ) → map.get (names_after start history names).paths path ≡ Some (File file) → IsWrittenBack (all_changed (bytes_of start.bytes file) (changes_of file start history)) before after)))
    → IsShownBy start history names files old → IsShownBy start history names files new

-- ---- a store

-- Before any entry a disk with the opening tree keeps the promise.
abbrev pub OpeningsAreKept : Type 0
OpeningsAreKept = (start : PosixTree) (content : ℕ → List ℕ) → ((file : ℕ) → IsNamed start.paths file → content file ≡ bytes_of start.bytes file) → ((file : ℕ) → start.next ≤ file → content file ≡ [])
    → IsKept start [] 0 (λ _. 0) content

-- What a disk opens to that keeps the promise is explained.
abbrev pub KeptIsExplained : Type 0
KeptIsExplained = (start : PosixTree) (history : List Entry) (names : ℕ) (files : ℕ → ℕ) (content : ℕ → List ℕ) (tree : PathNodes) → IsKept start history names files content
    → IsTreeWith (λ file bytes. bytes ≡ content file) (names_after start history names).paths tree → IsExplained tree start history

-- An entry whose acknowledgement is covered leaves the promise kept.
abbrev pub EntriesAreKept : Type 0
EntriesAreKept = (start : PosixTree) (history : List Entry) (entry : Entry) (names : ℕ) (files : ℕ → ℕ) (content : ℕ → List ℕ) → IsTree start → IsLegal start (history ++ entry ∷ [])
    → IsAckCovered start history entry names files → IsKept start history names files content → IsKept start (history ++ entry ∷ []) names files content

-- the numbers and contents of all other files stay
abbrev pub AreSameButIn : ℕ → (ℕ → ℕ) → (ℕ → ℕ) → (ℕ → List ℕ) → (ℕ → List ℕ) → Type 0
AreSameButIn one files others content after = (file : ℕ) → (file ≡ one) ⊎ ((files file ≡ others file) × (content file ≡ after file))

-- So does a write-back of bytes of a file that is made,
abbrev pub WriteBacksAreKept : Type 0
WriteBacksAreKept = (start : PosixTree) (history : List Entry) (names : ℕ) (files : ℕ → ℕ) (content after : ℕ → List ℕ) (file : ℕ) → file < (tree_after start history).next → AreSameButIn file files files content after
    → IsShown (bytes_of start.bytes file) (changes_of file start history) (files file) (content file) → IsWrittenBack (all_changed (bytes_of start.bytes file) (changes_of file start history)) (content file) (after file)
    → IsKept start history names files content → IsKept start history names files after

-- a commit of a file, after which the disk has all its changes,
abbrev pub FileCommitsAreKept : Type 0
FileCommitsAreKept = (start : PosixTree) (history : List Entry) (names : ℕ) (files others : ℕ → ℕ) (content after : ℕ → List ℕ) (file : ℕ) → file < (tree_after start history).next → AreSameButIn file files others content after
    → files file ≤ length (changes_of file start history) → others file ≡ length (changes_of file start history) → after file ≡ all_changed (bytes_of start.bytes file) (changes_of file start history)
    → IsKept start history names files content → IsKept start history names others after

-- and a commit of the names up to some of their changes.
abbrev pub NameCommitsAreKept : Type 0
NameCommitsAreKept = (start : PosixTree) (history : List Entry) (names more : ℕ) (files : ℕ → ℕ) (content : ℕ → List ℕ) → IsTree start → IsLegal start history
    → names ≤ more → more ≤ length (name_changes start history) → IsKept start history names files content → IsKept start history more files content

-- Files that no names have from the stored ones on, which were dropped or are open without a name, may count as committed
-- further, and their blocks may get other bytes.
abbrev pub UnnamedFilesAreKept : Type 0
UnnamedFilesAreKept = (start : PosixTree) (history : List Entry) (names : ℕ) (files others : ℕ → ℕ) (content after : ℕ → List ℕ)
    → ((count file : ℕ) → names ≤ count → count ≤ length (name_changes start history) → IsNamed (names_after start history count).paths file → (files file ≡ others file) × (content file ≡ after file))
    → ((file : ℕ) → files file ≤ others file) → ((file : ℕ) → (tree_after start history).next ≤ file → (others file ≡ 0) × (after file ≡ []))
    → IsKept start history names files content → IsKept start history names others after

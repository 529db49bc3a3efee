-- Which numbers of changes a history acknowledges, and that a disk which it explains shows them.
use Rattle.std.specs.Prelude.{ℕ, ◌≤◌, ◌≡◌, true, List, [], ◌∷◌, ◌++◌, length, Some, None}
use Rattle.std.specs.FinMap as map
use Rattle.ufs_model.specs.PosixTree.{PosixTree, Paths, IsTree}
use Rattle.ufs_model.specs.Laws.{KeepsTrees}
use Rattle.ufs_model.specs.History.{IsLegal, tree_after}
use Rattle.ufs_model.specs.declared.data.Entry.{Entry}
use Rattle.ufs_model.specs.declared.data.Node.TheVariants.{File}
use Rattle.ufs_model.specs.declared.data.Reply.TheVariants as reply
use Rattle.ufs_crash_laws.specs.Changes.{changes_of, name_changes, asks_commit, file_synced, names_synced, is_fsynced}
use Rattle.ufs_hand_laws.specs.Covers.{SyncsFile, SyncsNames, SyncsBirth, CoversNames, CoversBirths}
use Rattle.ufs_hand_laws.specs.Parts.{Cells}
use Rattle.ufs_hand_laws.specs.Shown.{ShowsImages, ExplainsImages}

-- a file has one name at most
abbrev pub IsNamedOnce : Paths → Type 0
IsNamedOnce paths = (p q : List ℕ) (file : ℕ) → map.get paths p ≡ Some (File file) → map.get paths q ≡ Some (File file) → p ≡ q

-- ---- numbers that are acknowledged

-- of each file no more changes than those before the last acknowledgement that syncs it
abbrev pub AreFilesAcknowledged : PosixTree → List Entry → (ℕ → ℕ) → Type 0
AreFilesAcknowledged start history files = (file : ℕ) → files file ≤ file_synced file start history

-- no more changes of names than each number of them that covers what is acknowledged of names, and of births of files
abbrev pub AreNamesAcknowledged : PosixTree → List Entry → ℕ → Type 0
AreNamesAcknowledged start history names = (n : ℕ) → n ≤ length (name_changes start history) → CoversNames start history n → CoversBirths start history n → names ≤ n

-- ---- what is explained shows them

-- A disk that a history explains shows the numbers that the history acknowledges, where each file has one name at most in
-- the first tree. By its definition what is explained may show other changes of one file under each of its names.
abbrev pub ExplainedShow : Type 0
ExplainedShow = (start : PosixTree) (history : List Entry) (files : ℕ → ℕ) (names : ℕ) (cells : Cells) → KeepsTrees → IsTree start → IsNamedOnce start.paths → IsLegal start history
    → AreFilesAcknowledged start history files → AreNamesAcknowledged start history names → ExplainsImages start history cells → ShowsImages start history files names None cells

-- An acknowledgement is no change itself: the disk shows the numbers also of the history before it.
abbrev pub AcknowledgedShow : Type 0
AcknowledgedShow = (start : PosixTree) (history : List Entry) (e : Entry) (files : ℕ → ℕ) (names : ℕ) (cells : Cells) → KeepsTrees → IsTree start → IsNamedOnce start.paths → IsLegal start (history ++ e ∷ [])
    → e.reply ≡ reply.Done → asks_commit e.op ≡ true → AreFilesAcknowledged start (history ++ e ∷ []) files → AreNamesAcknowledged start (history ++ e ∷ []) names
    → ExplainsImages start (history ++ e ∷ []) cells → ShowsImages start history files names None cells

-- ---- what an entry acknowledges

-- the file's changes before it,
abbrev pub FilesAreAcknowledged : Type 0
FilesAreAcknowledged = (start : PosixTree) (history : List Entry) (e : Entry) (file : ℕ) → e.reply ≡ reply.Done → SyncsFile (tree_after start history) e.client e.op file
    → file_synced file start (history ++ e ∷ []) ≡ length (changes_of file start history)

-- the changes of names before it,
abbrev pub NamesAreAcknowledged : Type 0
NamesAreAcknowledged = (start : PosixTree) (history : List Entry) (e : Entry) → e.reply ≡ reply.Done → SyncsNames (tree_after start history) e.client e.op
    → names_synced start (history ++ e ∷ []) ≡ length (name_changes start history)

-- and the file's birth
abbrev pub BirthsAreAcknowledged : Type 0
BirthsAreAcknowledged = (start : PosixTree) (history : List Entry) (e : Entry) (file : ℕ) → e.reply ≡ reply.Done → SyncsBirth (tree_after start history) e.client e.op file
    → is_fsynced file start (history ++ e ∷ []) ≡ true

-- ---- what is acknowledged stays so, whatever the next entry is

abbrev pub FilesStayAcknowledged : Type 0
FilesStayAcknowledged = (start : PosixTree) (history : List Entry) (e : Entry) (file : ℕ) → file_synced file start history ≤ file_synced file start (history ++ e ∷ [])

abbrev pub NamesStayAcknowledged : Type 0
NamesStayAcknowledged = (start : PosixTree) (history : List Entry) (e : Entry) → names_synced start history ≤ names_synced start (history ++ e ∷ [])

abbrev pub BirthsStayAcknowledged : Type 0
BirthsStayAcknowledged = (start : PosixTree) (history : List Entry) (e : Entry) (file : ℕ) → is_fsynced file start history ≡ true → is_fsynced file start (history ++ e ∷ []) ≡ true

-- Changes of names that were made before the entry, and cover the births that are acknowledged after it, cover those that
-- were acknowledged before it.
abbrev pub BirthsWereCovered : Type 0
BirthsWereCovered = (start : PosixTree) (history : List Entry) (e : Entry) (n : ℕ) → n ≤ length (name_changes start history) → CoversBirths start (history ++ e ∷ []) n → CoversBirths start history n

-- So a number of changes of names that is acknowledged stays acknowledged.
abbrev pub NumbersStayAcknowledged : Type 0
NumbersStayAcknowledged = (start : PosixTree) (history : List Entry) (e : Entry) (names : ℕ) → KeepsTrees → IsTree start → IsLegal start history
    → AreNamesAcknowledged start history names → AreNamesAcknowledged start (history ++ e ∷ []) names

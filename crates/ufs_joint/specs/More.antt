-- Behind a commit no less is known than before it, and what it is for may be acknowledged.
use Rattle.std.specs.Prelude.{ℕ, ◌≡◌, List, length, true}
use Rattle.ufs_model.specs.PosixTree.{PosixTree}
use Rattle.ufs_model.specs.declared.data.Entry.{Entry}
use Rattle.ufs_names.specs.NamesPart.{NamesPart}
use Rattle.ufs_crash_laws.specs.Changes.{changes_of, name_changes}
use Rattle.ufs_store.specs.State.{StoreState}
use Rattle.ufs_promise_laws.specs.Known.{AreNamesKnown, IsFileKnown, IsKeptGoing, IsMore, Known, with_file_known, with_names_known}
use Rattle.ufs_promise_laws.specs.Parts.{Parts}

abbrev pub FilesKnowMore : Type 0
FilesKnowMore = (s : StoreState) (start : PosixTree) (history : List Entry) (p : Parts) (known : Known) (file : ℕ) → IsKeptGoing s start history p known → IsMore known (with_file_known file (length (changes_of file start history)) known)

abbrev pub NamesKnowMore : Type 0
NamesKnowMore = (s : StoreState) (start : PosixTree) (history : List Entry) (p : Parts) (known : Known) (n : NamesPart) → IsKeptGoing s start history p known → IsMore known (with_names_known n (length (name_changes start history)) known)

abbrev pub FilesAreKnownThen : Type 0
FilesAreKnownThen = (start : PosixTree) (history : List Entry) (known : Known) (file : ℕ) → known.born file ≡ true → IsFileKnown start history (with_file_known file (length (changes_of file start history)) known) file

abbrev pub NamesAreKnownThen : Type 0
NamesAreKnownThen = (start : PosixTree) (history : List Entry) (known : Known) (n : NamesPart) → AreNamesKnown start history (with_names_known n (length (name_changes start history)) known)

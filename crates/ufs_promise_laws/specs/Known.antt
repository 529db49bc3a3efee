-- What is known as committed of what a server's clients did, and when its disk has at least that.
use Rattle.std.specs.Prelude.{ℕ, ◌≡◌, ◌≤◌, ◌<◌, ◌⊎◌, ◌||◌, Bool, true, false, List, IsSome, length, is_some}
use Rattle.std.specs.FinMap as map
use Rattle.ufs_ledger.specs.Kept.{Counts}
use Rattle.ufs_ledger.specs.Laws.{raised}
use Rattle.ufs_model.specs.PosixTree.{PosixTree}
use Rattle.ufs_model.specs.declared.data.Entry.{Entry}
use Rattle.ufs_names.specs.NamesPart.{NamesPart}
use Rattle.ufs_crash_laws.specs.Changes.{changes_of, name_changes, names_after}
use Rattle.ufs_store.specs.State.{StoreState}
use Rattle.ufs_promise_laws.specs.OnDisk.{HasStopped, IsGoing}
use Rattle.ufs_promise_laws.specs.Parts.{Parts}

-- So many changes of names are known as committed, and of each file so many of its own; and of which files it is known that a
-- commit of names has them.
pub record Known : Type 0 where
  pub names : ℕ
  pub files : ℕ → ℕ
  pub born : ℕ → Bool

abbrev pub nothing_known : Known
nothing_known = record { names = 0; files = λ file. 0; born = λ file. false }

-- The second has all that the first has.
pub record IsMore (old new : Known) : Type 0 where
  pub names : old.names ≤ new.names
  pub files : (file : ℕ) → old.files file ≤ new.files file
  pub born : (file : ℕ) → old.born file ≡ true → new.born file ≡ true

-- ---- a disk has it

-- These counts have all of it, and no more of names than the history has.
pub record Covers (start : PosixTree) (history : List Entry) (k : Counts) (known : Known) : Type 0 where
  pub made : k.names ≤ length (name_changes start history)
  pub names : known.names ≤ k.names
  pub files : (file : ℕ) → known.files file ≤ k.files file
  pub born : (file : ℕ) → known.born file ≡ true → file < (names_after start history k.names).next

-- Each live file of which it is known has an inode on the disk.
abbrev pub AreBorn : Counts → Parts → Known → Type 0
AreBorn k p known = (file : ℕ) → known.born file ≡ true → IsSome (map.get p.names.held file) → IsSome (k.numbers.inode file)

-- The store goes on, by counts that have it.
pub record IsKeptGoing (s : StoreState) (start : PosixTree) (history : List Entry) (p : Parts) (known : Known) : Type 0 where
  pub going : IsGoing s start history p
  pub covers : Covers start history going.counts known
  pub numbered : AreBorn going.counts p known

-- It has stopped. What stands on the disk has it, and what may stand there behind a commit that failed.
pub record IsKeptStopped (s : StoreState) (start : PosixTree) (history : List Entry) (p : Parts) (known : Known) : Type 0 where
  pub stopped : HasStopped s start history p
  pub now : Covers start history stopped.now known
  pub maybe : Covers start history stopped.maybe known

abbrev pub IsDiskKept : StoreState → PosixTree → List Entry → Parts → Known → Type 0
IsDiskKept s start history p known = IsKeptGoing s start history p known ⊎ IsKeptStopped s start history p known

-- ---- what is known behind a commit

-- of a file with so many changes
abbrev pub with_file_known : (file count : ℕ) → Known → Known
with_file_known file count known = record known { files = raised known.files file count }

-- of names with so many changes, which have these files
abbrev pub with_names_known : NamesPart → (count : ℕ) → Known → Known
with_names_known n count known = record known { names = count; born = λ file. known.born file || is_some (map.get n.held file) }

-- ---- what may be acknowledged

-- All changes of the file are known as committed, and so is its birth.
pub record IsFileKnown (start : PosixTree) (history : List Entry) (known : Known) (file : ℕ) : Type 0 where
  pub changes : length (changes_of file start history) ≤ known.files file
  pub born : known.born file ≡ true

-- All changes of names are.
abbrev pub AreNamesKnown : PosixTree → List Entry → Known → Type 0
AreNamesKnown start history known = length (name_changes start history) ≤ known.names

-- They are, and so are all changes of each live file.
pub record IsAllKnown (start : PosixTree) (history : List Entry) (p : Parts) (known : Known) : Type 0 where
  pub names : AreNamesKnown start history known
  pub files : (file : ℕ) → IsSome (map.get p.names.held file) → length (changes_of file start history) ≤ known.files file

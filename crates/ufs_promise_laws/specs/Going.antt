-- How a disk stands on behind a change of a server's names.
use Rattle.std.specs.Prelude.{ℕ, ◌≡◌, ◌≤◌, List, length, Some}
use Rattle.ufs_layout.specs.declared.geometry.Geometry.{Geometry}
use Rattle.ufs_model.specs.PosixTree.{PosixTree}
use Rattle.ufs_model.specs.History.{tree_after}
use Rattle.ufs_model.specs.declared.data.Entry.{Entry}
use Rattle.ufs_crash_laws.specs.Changes.{name_changes, names_after}
use Rattle.ufs_crash_laws.specs.Stored.{IsNamed}
use Rattle.ufs_ledger.specs.Ledger.{Stand}
use Rattle.ufs_ledger.specs.Kept.{Numbers}
use Rattle.ufs_dir_tree.specs.Steps.{DirState, Step, after_all}
use Rattle.ufs_promise_laws.specs.Held.{HasState, MaySteps, HasSoundNames}
use Rattle.ufs_promise_laws.specs.ChangeLaws.{AreOlder}
use Rattle.ufs_promise_laws.specs.Files.{KeepsInode, MayGoOn}
use Rattle.ufs_name_tree.specs.NameTable.{IsNameTable, file_at}
use Rattle.ufs_names.specs.NamesPart.{NamesPart, IsNamesPart}
use Rattle.ufs_promise_laws.specs.PathNumbers.{numbers_of}

-- The names are a tree's, and have the directories after the change, with a file's inode for each number.
pub record AreNamesBehind (d : DirState) (n : NamesPart) (t : PosixTree) : Type 0 where
  pub dirs : d.table ≡ n.tree.dirs
  pub sound : IsNameTable n.tree
  pub part : IsNamesPart n t
  pub files : (inode file : ℕ) → file_at n.tree inode ≡ Some file → d.kinds inode ≡ 1

-- The tree has the names after so many of their changes.
pub record HasNamesAfter (start : PosixTree) (history : List Entry) (more : ℕ) (t : PosixTree) : Type 0 where
  pub made : more ≤ length (name_changes start history)
  pub paths : t.paths ≡ (names_after start history more).paths
  pub next : t.next ≤ (tree_after start history).next

-- Then the disk may go on to these names, where each file that is named from now on keeps its inode or gets a new one.
abbrev pub NamesMayGoOn : Geometry → Type 0
NamesMayGoOn g = (s : Stand) (d : DirState) (xs : List Step) (number : ℕ) (start : PosixTree) (history : List Entry) (names more : ℕ) (old : Numbers) (n : NamesPart) (t : PosixTree)
    → HasState g s.catalog d → AreOlder g s.catalog number → MaySteps g d xs → HasSoundNames g (after_all xs d) → AreNamesBehind (after_all xs d) n t → HasNamesAfter start history more t → names ≤ more
    → ((count file : ℕ) → more ≤ count → count ≤ length (name_changes start history) → IsNamed (names_after start history count).paths file → KeepsInode xs old (numbers_of n) file)
    → MayGoOn g s d xs number start history names more old (numbers_of n)

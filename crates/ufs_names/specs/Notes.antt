-- The notes beside a server's names.
use Rattle.std.specs.Prelude.{ℕ, ◌≡◌, List}
use Rattle.ufs_ilog.specs.Notes.{Noted}
use Rattle.ufs_model.specs.PosixTree.{PosixTree}
use Rattle.ufs_name_tree.specs.NameTable.{IsNameTable, file_at, node_at}
use Rattle.ufs_names.specs.NamesPart.{NamesPart, IsNamesPart}

-- the same names with these notes
abbrev pub with_notes : Noted → NamesPart → NamesPart
with_notes noted n = record n { tree = record n.tree { noted = noted } }

-- What notes there are changes nothing else: the names stand for the same, are a part of the same trees, and their table is
-- one still.
pub record AreBeside (n : NamesPart) (noted : Noted) : Type 0 where
  pub nodes : (names : List (List ℕ)) → node_at (with_notes noted n).tree names ≡ node_at n.tree names
  pub files : (inode : ℕ) → file_at (with_notes noted n).tree inode ≡ file_at n.tree inode
  pub part : (t : PosixTree) → IsNamesPart n t → IsNamesPart (with_notes noted n) t
  pub table : IsNameTable n.tree → IsNameTable (with_notes noted n).tree

abbrev pub NotesAreBeside : Type 0
NotesAreBeside = (n : NamesPart) (noted : Noted) → AreBeside n noted

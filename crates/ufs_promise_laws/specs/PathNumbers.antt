-- The numbers of a server's files.
use Rattle.std.specs.Prelude.{ℕ, ◌≡◌, ◌≤◌, None, unwrap_or}
use Rattle.std.specs.Option.{option_map}
use Rattle.std.specs.FinMap as map
use Rattle.ufs_model.specs.PosixTree.{PosixTree}
use Rattle.ufs_ledger.specs.Kept.{Numbers}
use Rattle.ufs_promise_laws.specs.Numbers.{ArePathsOf, AreNumbersOf}
use Rattle.ufs_name_tree.specs.NameTable.{IsNameTable, file_at}
use Rattle.ufs_names.specs.NamesPart.{NamesPart, IsNamesPart}
use Rattle.ufs_names.specs.declared.holding.Holding.{Holding}

-- the inode of each live file, and the file of each inode
abbrev pub numbers_of : NamesPart → Numbers
numbers_of n = record { inode = λ file. option_map (λ (h : Holding). h.inode) (map.get n.held file); file = λ inode. unwrap_or (file_at n.tree inode) 0 }

-- The names of a tree tell its paths,
abbrev pub PartsTellPaths : Type 0
PartsTellPaths = (n : NamesPart) (t : PosixTree) → IsNameTable n.tree → IsNamesPart n t → ArePathsOf n.tree t.paths

-- with these numbers,
abbrev pub PartsHaveNumbers : Type 0
PartsHaveNumbers = (n : NamesPart) (t : PosixTree) → IsNamesPart n t → AreNumbersOf n.tree (numbers_of n)

-- and a file that is still to be born has no inode.
abbrev pub UnbornHaveNone : Type 0
UnbornHaveNone = (n : NamesPart) (t : PosixTree) → IsNamesPart n t → (file : ℕ) → t.next ≤ file → (numbers_of n).inode file ≡ None

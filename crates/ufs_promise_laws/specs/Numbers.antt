-- The files' numbers beside a catalog.
use Rattle.std.specs.Prelude.{ℕ, ◌≡◌, List, Some}
use Rattle.std.specs.FinMap as map
use Rattle.ufs_layout.specs.declared.geometry.Geometry.{Geometry}
use Rattle.ufs_model.specs.PosixTree.{Paths}
use Rattle.ufs_model.specs.declared.data.Node.{Node}
use Rattle.ufs_image.specs.Catalog.{Catalog}
use Rattle.ufs_image.specs.Walks.{path_text, ArePieces}
use Rattle.ufs_ledger.specs.Kept.{Numbers, IsNumberedBy}
use Rattle.ufs_name_tree.specs.NameTable.{NameTable, IsNameTable, file_at, node_at}
use Rattle.ufs_dir_tree.specs.Steps.{DirState}
use Rattle.ufs_promise_laws.specs.Held.{HasState, HasSoundNames}

-- The paths are those that the names tell: at the text of each list of names what stands there, and none besides.
pub record ArePathsOf (n : NameTable) (paths : Paths) : Type 0 where
  pub there : (names : List (List ℕ)) → ArePieces names → map.get paths (path_text names) ≡ node_at n names
  pub only : (path : List ℕ) (node : Node) → map.get paths path ≡ Some node → (names : List (List ℕ)) × ArePieces names × (path ≡ path_text names)

-- Each file's inode has the file's number, and is its inode.
pub record AreNumbersOf (n : NameTable) (m : Numbers) : Type 0 where
  pub file : (inode file : ℕ) → file_at n inode ≡ Some file → m.file inode ≡ file
  pub inode : (inode file : ℕ) → file_at n inode ≡ Some file → m.inode file ≡ Some inode

-- Where the names' directories are the catalog's, their paths are those of the catalog with these numbers.
abbrev pub NamesNumberPaths : Geometry → Type 0
NamesNumberPaths g = (c : Catalog) (s : DirState) (n : NameTable) (paths : Paths) (m : Numbers) → HasState g c s → HasSoundNames g s → s.table ≡ n.dirs → IsNameTable n → ArePathsOf n paths → AreNumbersOf n m → IsNumberedBy c m paths

-- The names of an image's directories, with the numbers of its files.
use Rattle.std.specs.Prelude.{ℕ, ◌≡◌, List, length, Some}
use Rattle.std.specs.Option.{option_map}
use Rattle.std.specs.FinMap as map
use Rattle.std.specs.FinMap.{from_entries}
use Rattle.ufs_base.specs.Images.{Image}
use Rattle.ufs_image.specs.Catalog.{Catalog}
use Rattle.ufs_image.specs.Opens.{ImageTree, walked}
use Rattle.ufs_image.specs.Standing.{IsVolumeOf}
use Rattle.ufs_image.specs.Volume.{Volume}
use Rattle.ufs_image.specs.Walks.{inode_of, path_text}
use Rattle.ufs_model.specs.PosixTree.{PosixTree, Paths, IsTree}
use Rattle.ufs_model.specs.Start.{IsNumberedByPath, content_of}
use Rattle.ufs_model.specs.declared.data.Node.TheVariants.{File}
use Rattle.ufs_ledger.specs.Kept.{path_node_of}
use Rattle.ufs_dir_tree.specs.DirTable.{IsReached}
use Rattle.ufs_dir_laws.specs.Tables.{IsTableOf}
use Rattle.ufs_name_tree.specs.NameTable.{NameTable, IsNameTable, file_at, node_at}
use Rattle.ufs_names.specs.NamesPart.{IsNamedOnce}
use Rattle.ufs_names.specs.Stands.{Stands}

-- ---- trees of an image

-- The tree has the image's paths: directories, and files with their bytes.
abbrev pub HasImage : PosixTree → ImageTree → Type 0
HasImage t image = (path : List ℕ) → content_of t.bytes (map.get t.paths path) ≡ option_map path_node_of (map.get image path)

-- ---- numbers

-- A walk through the catalog meets the inode, and at its path stands the file of this number.
pub record IsFileAt (c : Catalog) (paths : Paths) (inode file : ℕ) : Type 0 where
  pub names : List (List ℕ)
  pub met : inode_of c names ≡ Some inode
  pub stands : map.get paths (path_text names) ≡ Some (File file)

-- There is a place for each inode; each file's has the number that stands at its path, and the others have none.
pub record IsNumberedAs (c : Catalog) (n : NameTable) (paths : Paths) : Type 0 where
  pub counted : length n.files ≡ length n.dirs.dirs
  pub each : (inode file : ℕ) → IsFileAt c paths inode file → file_at n inode ≡ Some file
  pub only : (inode file : ℕ) → file_at n inode ≡ Some file → IsFileAt c paths inode file

-- ---- laws

-- Of an image that opens to a tree, the directories, where each one with a name is met, and the files' numbers in a tree
-- of its paths make a table of names, and that tree's paths stand for what it tells.
abbrev pub NamesStandForTrees : ℕ → Type 0
NamesStandForTrees sectors = (image : Image) (v : Volume) (c : Catalog) (n : NameTable) (t : PosixTree) → IsVolumeOf sectors image v c → IsTree t → HasImage t (from_entries (walked v)) → IsNamedOnce t.paths
    → IsTableOf v.geometry c n.dirs → IsNumberedAs c n t.paths → IsReached n.dirs → IsNameTable n × Stands (node_at n) t.paths

-- Files that are numbered by rising path have one name each.
abbrev pub NumbersNameOnce : Type 0
NumbersNameOnce = (t : PosixTree) → IsNumberedByPath t → IsNamedOnce t.paths

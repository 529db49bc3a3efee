-- The part of the names that a server begins with.
use Rattle.std.specs.Prelude.{ℕ, ◌≡◌}
use Rattle.std.specs.FinMap as map
use Rattle.std.specs.FinMap.{from_entries}
use Rattle.ufs_base.specs.Images.{Image}
use Rattle.ufs_layout.specs.declared.geometry.Geometry.{Geometry}
use Rattle.ufs_image.specs.Catalog.{Catalog}
use Rattle.ufs_image.specs.Opens.{walked}
use Rattle.ufs_image.specs.Standing.{IsVolumeOf}
use Rattle.ufs_image.specs.Volume.{Volume}
use Rattle.ufs_model.specs.PosixTree.{PosixTree, IsTree}
use Rattle.ufs_dir_laws.specs.Tables.{IsTableOf}
pub use Rattle.ufs_names.specs.Closed.{closed_file, AreClosed}
use Rattle.ufs_names.specs.NamesPart.{NamesPart, IsNamedOnce, IsNamesPart}
use Rattle.ufs_promise_laws.specs.Numbered.{HasImage, IsNumberedAs}

-- The directories are the catalog's, and the numbers of files are the tree's.
pub record IsNamesOf (g : Geometry) (c : Catalog) (t : PosixTree) (n : NamesPart) : Type 0 where
  pub dirs : IsTableOf g c n.tree.dirs
  pub numbers : IsNumberedAs c n.tree t.paths
  pub closed : AreClosed n.tree n.held
  pub next : n.next ≡ t.next

-- Where the image opens to the tree, and nothing is open in it, they are the tree's part.
abbrev pub NamesAreParts : ℕ → Type 0
NamesAreParts sectors = (image : Image) (v : Volume) (c : Catalog) (t : PosixTree) (n : NamesPart) → IsVolumeOf sectors image v c → IsTree t → HasImage t (from_entries (walked v)) → IsNamedOnce t.paths
    → t.fds ≡ map.empty → IsNamesOf v.geometry c t n → IsNamesPart n t

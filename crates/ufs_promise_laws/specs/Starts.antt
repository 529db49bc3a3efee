-- The tree that a session on an image begins with.
use Rattle.std.specs.Prelude.{ℕ, ◌≡◌, Ok}
use Rattle.ufs_base.specs.Images.{Image}
use Rattle.ufs_image.specs.Catalog.{Catalog}
use Rattle.ufs_image.specs.Opens.{ImageTree, opens}
use Rattle.ufs_image.specs.Standing.{IsVolumeOf}
use Rattle.ufs_image.specs.Volume.{Volume}
use Rattle.ufs_model.specs.PosixTree.{PosixTree}
use Rattle.ufs_model.specs.Start.{IsPathTree, start_of}
use Rattle.ufs_ledger.specs.Kept.{paths_of}
use Rattle.ufs_names.specs.NamesPart.{NamesPart, IsNamesPart}
use Rattle.ufs_promise_laws.specs.TreeParts.{IsNamesOf}

-- The paths of an image's tree form one: the root and each parent are directories, and each path is whole.
abbrev pub ImagesArePathTrees : ℕ → Type 0
ImagesArePathTrees sectors = (image : Image) (tree : ImageTree) → opens sectors image ≡ Ok tree → IsPathTree (paths_of tree)

-- the image's tree with its files numbered from 0 by rising path, and nothing open
abbrev pub image_start : ImageTree → PosixTree
image_start tree = start_of (paths_of tree)

-- The directories of an image's catalog, with those numbers, are that tree's part of the names.
abbrev pub NamesArePartsOfStarts : ℕ → Type 0
NamesArePartsOfStarts sectors = (image : Image) (tree : ImageTree) (v : Volume) (c : Catalog) (n : NamesPart) → opens sectors image ≡ Ok tree → IsVolumeOf sectors image v c
    → IsNamesOf v.geometry c (image_start tree) n → IsNamesPart n (image_start tree)

-- The tree that an undamaged image stands for, and the numbers of its files.
use Rattle.std.specs.Prelude.{ℕ, ◌≡◌, List, [], ◌∷◌, Option, Some, None, Ok, IsSome, slice_index_or}
use Rattle.std.specs.FinMap.{from_entries}
use Rattle.ufs_base.specs.Images.{Image}
use Rattle.ufs_layout.specs.declared.geometry.Geometry.{Geometry}
use Rattle.ufs_image.specs.Catalog.{IsInode, catalog_at}
use Rattle.ufs_image.specs.Images.{form_at}
use Rattle.ufs_image.specs.Damage.{bad_tree}
use Rattle.ufs_layout.specs.declared.superblock.Super.{Super}
use Rattle.ufs_image.specs.Opens.{ImageTree, below, opens, root_entry}
use Rattle.ufs_image.specs.Standing.{IsVolumeOf}
use Rattle.ufs_damage.specs.Findings.{CatalogRead, AreFindingsOf}
use Rattle.ufs_bitmap.specs.Blocks.{BlockSet}
use Rattle.ufs_files.specs.Files.{Files, AreFilesOf}
use Rattle.ufs_name_tree.specs.NameTable.{NameTable, file_at}
use Rattle.ufs_names.specs.Calls.{HaveInodes}
use Rattle.ufs_names.specs.Space.{AreApart}
use Rattle.ufs_promise_laws.specs.Loaded.{AreRead, IsUntaken}
use Rattle.ufs_promise_laws.specs.Numbered.{IsFileAt}
use Rattle.ufs_dir_tree.specs.DirTable.{DirTable}
use Rattle.ufs_dir_laws.specs.Tables.{IsTableOf}
use Rattle.ufs_names.specs.NamesPart.{NamesPart, IsNamesPart}
use Rattle.ufs_promise_laws.specs.TreeParts.{IsNamesOf}
use Rattle.ufs_promise_laws.specs.Starts.{image_start}

-- the root, and what stands below it
abbrev pub tree_in : Geometry → Image → ImageTree
tree_in g image = from_entries (root_entry ∷ below g.inodes g image [] 1)

-- This was read of the image, and nothing of its tree is damaged.
pub record IsUndamaged (g : Geometry) (image : Image) (f : CatalogRead) : Type 0 where
  pub found : AreFindingsOf g image f
  pub whole : bad_tree g image ≡ None

-- By inode, just the files of the tree have numbers, those by rising path.
pub record AreNumbersOf (g : Geometry) (image : Image) (files : List (Option ℕ)) : Type 0 where
  pub each : (inode file : ℕ) → IsFileAt (catalog_at g image) (image_start (tree_in g image)).paths inode file → slice_index_or files inode None ≡ Some file
  pub only : (inode file : ℕ) → slice_index_or files inode None ≡ Some file → IsFileAt (catalog_at g image) (image_start (tree_in g image)).paths inode file

-- By inode, each file of the image has a number.
abbrev pub HaveNumbers : Geometry → Image → List (Option ℕ) → Type 0
HaveNumbers g image files = (inode : ℕ) → IsInode g inode → (form_at g image inode).kind ≡ 1 → IsSome (slice_index_or files inode None)

-- Each file of the image is one that the names tell.
abbrev pub AreFilesNamed : Geometry → Image → NameTable → Type 0
AreFilesNamed g image t = (inode : ℕ) → IsInode g inode → (form_at g image inode).kind ≡ 1 → IsSome (file_at t inode)

-- This was read of an image of a disk of so many sectors, as its committed transactions leave it; the image stands for
-- a tree.
pub record IsLoaded (g : Geometry) (f : CatalogRead) (sectors : ℕ) (disk : Image) (superblock : Super) (image : Image) : Type 0 where
  pub standing : IsVolumeOf sectors disk (record { superblock = superblock; geometry = g; image = image }) (catalog_at g image)
  pub found : AreFindingsOf g image f

abbrev pub IsOfSome : Geometry → CatalogRead → Type 0
IsOfSome g f = (sectors : ℕ) × (disk : Image) × (superblock : Super) × (image : Image) × IsLoaded g f sectors disk superblock image

-- The directories are those of each undamaged image of which this was read.
abbrev pub AreDirsOf : Geometry → CatalogRead → DirTable → Type 0
AreDirsOf g f t = (image : Image) → IsUndamaged g image f → IsTableOf g (catalog_at g image) t

-- The image opens to a tree, and the names are the part of that tree's start.
pub record AreStartNames (sectors : ℕ) (disk : Image) (g : Geometry) (image : Image) (n : NamesPart) : Type 0 where
  pub opened : opens sectors disk ≡ Ok (tree_in g image)
  pub names : IsNamesOf g (catalog_at g image) (image_start (tree_in g image)) n
  pub part : IsNamesPart n (image_start (tree_in g image))

-- And so they are of some image of which this was read.
abbrev pub AreNamesOfSome : Geometry → CatalogRead → NamesPart → Type 0
AreNamesOfSome g f n = (sectors : ℕ) × (disk : Image) × (superblock : Super) × (image : Image) × IsLoaded g f sectors disk superblock image × AreStartNames sectors disk g image n

-- ---- laws

-- Files that were read of the image are parts of its start, each with the inode that the names tell of it.
abbrev pub FilesArePartsOfStarts : Type 0
FilesArePartsOfStarts = (g : Geometry) (f : CatalogRead) (sectors : ℕ) (disk : Image) (superblock : Super) (image : Image) (n : NamesPart) (files : Files) → IsLoaded g f sectors disk superblock image → AreStartNames sectors disk g image n
    → AreRead image (catalog_at g image) n files → AreFilesOf files (image_start (tree_in g image)) × HaveInodes n.held files

-- With a pool of blocks that the image leaves free, no block is of two of a directory, a file and the pool.
abbrev pub BlocksOfStartsAreApart : Type 0
BlocksOfStartsAreApart = (g : Geometry) (f : CatalogRead) (sectors : ℕ) (disk : Image) (superblock : Super) (image : Image) (n : NamesPart) (files : Files) (pool : BlockSet) → IsLoaded g f sectors disk superblock image → AreStartNames sectors disk g image n
    → AreRead image (catalog_at g image) n files → IsUntaken g (catalog_at g image) pool → AreApart n.tree.dirs files pool

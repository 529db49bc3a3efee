-- The files that a server begins with.
use Rattle.std.specs.Prelude.{ℕ, ◌≡◌, Some, true, false}
use Rattle.std.specs.FinMap as map
use Rattle.std.specs.FinSet as set
use Rattle.std.specs.FinMap.{from_entries}
use Rattle.ufs_base.specs.Images.{Image}
use Rattle.ufs_image.specs.Catalog.{Catalog}
use Rattle.ufs_image.specs.Changes.{IsTakenBlock}
use Rattle.ufs_image.specs.Nodes as image_nodes
use Rattle.ufs_image.specs.Opens.{file_bytes, walked}
use Rattle.ufs_image.specs.Standing.{IsVolumeOf}
use Rattle.ufs_image.specs.Volume.{Volume}
use Rattle.ufs_bitmap.specs.Blocks.{BlockSet}
use Rattle.ufs_extent.specs.Runs.{blocks_of}
use Rattle.ufs_layout.specs.declared.geometry.Geometry.{Geometry}
use Rattle.ufs_file.specs.Content.{IsContentOf}
use Rattle.ufs_file.specs.Hand.{FileState}
use Rattle.ufs_files.specs.Files.{Files, AreFilesOf}
use Rattle.ufs_model.specs.PosixTree.{PosixTree, IsTree}
use Rattle.ufs_name_tree.specs.NameTable.{file_at}
use Rattle.ufs_names.specs.Calls.{HaveInodes}
use Rattle.ufs_names.specs.NamesPart.{NamesPart, IsNamedOnce}
use Rattle.ufs_names.specs.Space.{AreApart}
use Rattle.ufs_promise_laws.specs.Numbered.{HasImage}
use Rattle.ufs_promise_laws.specs.TreeParts.{IsNamesOf}

-- It is the file with this number, and may have the bytes that the image has at its inode, and has its blocks there.
pub record IsRead (image : Image) (c : Catalog) (n : NamesPart) (file : ℕ) (s : FileState) : Type 0 where
  pub number : s.file ≡ file
  pub inode : file_at n.tree s.inode ≡ Some file
  pub may : IsContentOf s.content (file_bytes image (c.forms s.inode))
  pub blocks : blocks_of s.extents ≡ image_nodes.blocks_of (c.forms s.inode)

abbrev pub AreRead : Image → Catalog → NamesPart → Files → Type 0
AreRead image c n files = (file : ℕ) (s : FileState) → map.get files file ≡ Some s → IsRead image c n file s

-- Files that are read so are parts of the tree that the image opens to, each with the inode that the names tell of it.
abbrev pub FilesAreParts : ℕ → Type 0
FilesAreParts sectors = (image : Image) (v : Volume) (c : Catalog) (t : PosixTree) (n : NamesPart) (files : Files) → IsVolumeOf sectors image v c → IsTree t → HasImage t (from_entries (walked v))
    → IsNamesOf v.geometry c t n → AreRead v.image c n files → AreFilesOf files t × HaveInodes n.held files

-- No inode has a block of the pool, and none of them lies before the data area.
abbrev pub IsUntaken : Geometry → Catalog → BlockSet → Type 0
IsUntaken g c pool = (block : ℕ) → set.contains pool block ≡ true → IsTakenBlock g c block → ⊥

-- Then no block is of two of a directory, a file and the pool.
abbrev pub BlocksAreApart : ℕ → Type 0
BlocksAreApart sectors = (image : Image) (v : Volume) (c : Catalog) (t : PosixTree) (n : NamesPart) (files : Files) (pool : BlockSet) → IsVolumeOf sectors image v c → IsTree t → HasImage t (from_entries (walked v))
    → IsNamedOnce t.paths → IsNamesOf v.geometry c t n → AreRead v.image c n files → IsUntaken v.geometry c pool → AreApart n.tree.dirs files pool

-- A pool of blocks that the image doesn't take is such a one.
abbrev pub FreeIsUntaken : ℕ → Type 0
FreeIsUntaken sectors = (image : Image) (v : Volume) (c : Catalog) (pool : BlockSet) → IsVolumeOf sectors image v c
    → ((block : ℕ) → set.contains pool block ≡ true → image_nodes.is_taken v.geometry (image_nodes.sound_nodes v.geometry v.image) block ≡ false) → IsUntaken v.geometry c pool

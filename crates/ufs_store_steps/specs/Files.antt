-- Which files a stand of the ledger has, by their paths, and what a commit does to them.
use Rattle.std.specs.Prelude.{ℕ, ◌≡◌, ◌≢◌, ◌<◌, ◌⊎◌, List, length, Bool, true, false, Some}
use Rattle.std.specs.FinMap as map
use Rattle.ufs_disk.specs.Disk.{Cell}
use Rattle.ufs_image.specs.Catalog.{IsInode, HasBlock}
use Rattle.ufs_layout.specs.declared.geometry.Geometry.{Geometry}
use Rattle.ufs_model.specs.PosixTree.{Paths}
use Rattle.ufs_model.specs.declared.data.Node.TheVariants.{File}
use Rattle.ufs_crash_laws.specs.FileChanges.{byte_at}
use Rattle.ufs_ledger.specs.Ledger.{is_held, Stand}
use Rattle.ufs_ledger.specs.Kept.{Numbers, IsNumberedBy, shape_of, MayHave}

-- The paths are those of the catalog, and nothing is folded in the blocks of files.
pub record HasFiles (g : Geometry) (s : Stand) (n : Numbers) (paths : Paths) : Type 0 where
  pub numbered : IsNumberedBy s.catalog n paths
  pub inodes : (file inode : ℕ) → n.inode file ≡ Some inode → IsInode g inode × ((s.catalog.forms inode).kind ≡ 1)
  pub unheld : (inode place block : ℕ) → HasBlock g s.catalog inode place block → (s.catalog.forms inode).kind ≡ 1 → is_held s.log block ≡ false

-- The stand afterwards has the same paths. Whatever a crash leaves of the file is these bytes, and the other files have what
-- they had.
pub record CommitsBytes (g : Geometry) (blocks : ℕ → Cell) (s t : Stand) (n : Numbers) (paths : Paths) (file : ℕ) (bytes : List ℕ) : Type 0 where
  pub after : HasFiles g t n paths
  pub others : (other : ℕ) → other ≢ file → shape_of t.catalog (n.inode other) ≡ shape_of s.catalog (n.inode other)
  pub sized : (shape_of t.catalog (n.inode file)).size ≡ length bytes
  pub now : (place byte : ℕ) → place < length bytes → MayHave blocks (shape_of t.catalog (n.inode file)) place byte → byte ≡ byte_at bytes place

-- The file has the blocks and the size that it had, where it had a path before; or it is new, and has no bytes.
pub record IsKeptShape (s t : Stand) (n m : Numbers) (old : Paths) (file : ℕ) : Type 0 where
  pub path : List ℕ
  pub named : map.get old path ≡ Some (File file)
  pub shape : shape_of t.catalog (m.inode file) ≡ shape_of s.catalog (n.inode file)

-- The stand afterwards has these paths.
pub record CommitsPaths (g : Geometry) (s t : Stand) (n m : Numbers) (old new : Paths) (fresh : ℕ → Bool) : Type 0 where
  pub after : HasFiles g t m new
  pub each : (path : List ℕ) (file : ℕ) → map.get new path ≡ Some (File file)
      → ((fresh file ≡ false) × IsKeptShape s t n m old file) ⊎ ((fresh file ≡ true) × ((shape_of t.catalog (m.inode file)).size ≡ 0))

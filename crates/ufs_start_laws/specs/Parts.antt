-- What a server on a disk begins with.
use Rattle.std.specs.Prelude.{ℕ, ◌≡◌, ◌==◌, ◌↔◌, [], true, false, length, slice_get, IsSome, Some, None}
use Rattle.std.specs.FinMap as map
use Rattle.std.specs.FinMap.{from_entries}
use Rattle.std.specs.FinSet as set
use Rattle.ufs_base.specs.Images.{Image}
use Rattle.ufs_bitmap.specs.Blocks.{BlockSet}
use Rattle.ufs_dir_tree.specs.DirTable.{IsReached}
use Rattle.ufs_extent.specs.Runs.{blocks_of}
use Rattle.ufs_file.specs.Hand.{FileState}
use Rattle.ufs_files.specs.Files.{AreFilesOf, Files}
use Rattle.ufs_ilog.specs.Deltas.{extents_of}
use Rattle.ufs_image.specs.Catalog.{Catalog, HasBlock, IsInode, catalog_at}
use Rattle.ufs_image.specs.Changes.{IsTakenBlock}
use Rattle.ufs_image.specs.Opens.{walked}
use Rattle.ufs_image.specs.Standing.{IsVolumeOf}
use Rattle.ufs_image.specs.Volume.{Volume}
use Rattle.ufs_ledger.specs.Kept.{Counts}
use Rattle.ufs_ledger.specs.Ledger.{IsDataBlock}
use Rattle.ufs_model.specs.PosixTree.{PosixTree}
use Rattle.ufs_name_tree.specs.NameTable.{file_at}
use Rattle.ufs_names.specs.Calls.{HaveInodes}
use Rattle.ufs_names.specs.NamesPart.{IsNamesPart, NamesPart}
use Rattle.ufs_names.specs.Notes.{with_notes}
use Rattle.ufs_names.specs.Space.{AreApart}
use Rattle.ufs_promise_laws.specs.Loaded.{AreRead}
use Rattle.ufs_promise_laws.specs.TreeParts.{IsNamesOf}
use Rattle.ufs_promise_laws.specs.Starts.{image_start}
use Rattle.ufs_promise_laws.specs.PathNumbers.{numbers_of}
use Rattle.ufs_promise_laws.specs.Parts.{Parts}

-- ---- of an image

abbrev pub catalog_of : Volume → Catalog
catalog_of v = catalog_at v.geometry v.image

-- the tree that it stands for, with its files numbered
abbrev pub start_in : Volume → PosixTree
start_in v = image_start (from_entries (walked v))

-- A file lies where its inode says, and has a mark for each of its blocks, and one that tells whether it is in memory, as what was
-- written is.
pub record IsLaid (c : Catalog) (s : FileState) : Type 0 where
  pub extents : (c.forms s.inode).extents ≡ extents_of s.extents
  pub marks : length s.content.dirty ≡ length (blocks_of s.extents)
  pub held : length s.content.there ≡ length s.content.dirty
  pub written : (place : ℕ) → slice_get s.content.dirty place ≡ Some true → slice_get s.content.there place ≡ Some true

-- Names, files and free blocks are those of the image.
pub record IsOpened (sectors : ℕ) (disk : Image) (v : Volume) (n : NamesPart) (files : Files) (free : BlockSet) : Type 0 where
  pub standing : IsVolumeOf sectors disk v (catalog_of v)
  pub table : IsNamesOf v.geometry (catalog_of v) (start_in v) n
  pub names : IsNamesPart n (start_in v)
  -- each directory that has a name is met
  pub reached : IsReached n.tree.dirs
  pub read : AreRead v.image (catalog_of v) n files
  pub parts : AreFilesOf files (start_in v)
  pub inodes : HaveInodes n.held files
  pub here : (inode file : ℕ) → file_at n.tree inode ≡ Some file → IsSome (map.get files file)
  pub laid : (file : ℕ) (s : FileState) → map.get files file ≡ Some s → IsLaid (catalog_of v) s
  pub untaken : (block : ℕ) → set.contains free block ≡ true → IsDataBlock v.geometry block × (IsTakenBlock v.geometry (catalog_of v) block → ⊥)
  pub apart : AreApart n.tree.dirs files free

-- ---- blocks of files without a name

-- An inode has the block that is neither a directory nor a file of a number: no path names it.
pub record IsOrphaned (v : Volume) (n : NamesPart) (block : ℕ) : Type 0 where
  pub inode : ℕ
  pub place : ℕ
  pub has : HasBlock v.geometry (catalog_of v) inode place block
  pub no_dir : (((catalog_of v).forms inode).kind == 2) ≡ false
  pub unnamed : file_at n.tree inode ≡ None

-- These are just such blocks.
abbrev pub AreOrphaned : Volume → NamesPart → BlockSet → Type 0
AreOrphaned v n blocks = (block : ℕ) → (set.contains blocks block ≡ true) ↔ IsOrphaned v n block

-- Each inode is free, a directory, or a file of a number.
abbrev pub AllAreNamed : Volume → NamesPart → Type 0
AllAreNamed v n = (inode : ℕ) → IsInode v.geometry inode → ((catalog_of v).forms inode).kind ≡ 1 → IsSome (file_at n.tree inode)

-- ---- the server

-- Nothing is noted, and each file is committed as it is. All free blocks are the store's; those of files without a name are
-- nobody's.
abbrev pub begun_parts : NamesPart → Files → BlockSet → Parts
begun_parts n files orphaned = record { names = with_notes (Some []) n; files = files; commits = map.empty; pool = set.empty; fresh = []; dropped = orphaned }

-- no change is made yet, and the files have the inodes that the names tell
abbrev pub begun_counts : NamesPart → Counts
begun_counts n = record { names = 0; files = λ _. 0; numbers = numbers_of n }

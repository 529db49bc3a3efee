-- When a history explains whatever a crash may leave of a ledger.
use Rattle.std.specs.Prelude.{ℕ, ◌≡◌, ◌≤◌, ◌<◌, ◌==◌, ◌/◌, ◌%◌, List, [], length, false, if◌then◌else◌, Option, Some, None, Ok}
use Rattle.std.specs.List.{slice_get}
use Rattle.std.specs.Option.{option_map}
use Rattle.std.specs.FinMap as map
use Rattle.ufs_base.specs.declared.sizes.TheConstants.{BLOCK}
use Rattle.ufs_disk.specs.Disk.{Cell, possible}
use Rattle.ufs_layout.specs.Superblock.{geometry_of}
use Rattle.ufs_base.specs.Images.{Image}
use Rattle.ufs_image.specs.Nodes.{blocks_of}
use Rattle.ufs_image.specs.Opens.{NodeBytes, ImageTree, opens}
use Rattle.ufs_layout.specs.declared.geometry.Geometry.{Geometry}
use Rattle.ufs_model.specs.PosixTree.{PosixTree, Paths}
use Rattle.ufs_model.specs.FileBytes.{bytes_of}
use Rattle.ufs_model.specs.Start.{PathNodes}
use Rattle.ufs_model.specs.History.{tree_after}
use Rattle.ufs_model.specs.declared.data.Entry.{Entry}
use Rattle.ufs_model.specs.declared.data.Node.{Node}
use Rattle.ufs_model.specs.declared.data.Node.TheVariants.{Dir, File}
use Rattle.ufs_model.specs.declared.data.PathNode.{PathNode}
use Rattle.ufs_model.specs.declared.data.PathNode.TheVariants as path_node
use Rattle.ufs_crash_laws.specs.FileChanges.{bytes_after, MayShow}
use Rattle.ufs_crash_laws.specs.Changes.{changes_of, name_changes, names_after}
use Rattle.ufs_crash_laws.specs.Explained.{IsCovering, IsExplained, IsExplainedFrom}
use Rattle.ufs_crash_laws.specs.Mapped.{mapped}
use Rattle.ufs_crash_laws.specs.Stored.{IsNamed}
use Rattle.ufs_crash_laws.specs.declared.data.FileChange.{FileChange}
use Rattle.ufs_image.specs.Catalog.{Catalog, IsInode, HasBlock}
use Rattle.ufs_image.specs.Walks.{inode_of, path_text, ArePieces}
use Rattle.ufs_ledger.specs.Ledger.{HasByte, is_held, Stand, Standing, Ledger}

-- ---- files and inodes

-- which inode a file has on the disk, if any, and which file an inode is
pub record Numbers : Type 0 where
  pub inode : ℕ → Option ℕ
  pub file : ℕ → ℕ

-- what stands at an inode
abbrev pub numbered : Catalog → Numbers → ℕ → Node
numbered c n inode = if (c.forms inode).kind == 2 then Dir else File (n.file inode)

-- The paths are those of the catalog.
pub record IsNumberedBy (c : Catalog) (n : Numbers) (paths : Paths) : Type 0 where
  pub there : (names : List (List ℕ)) → ArePieces names → map.get paths (path_text names) ≡ option_map (numbered c n) (inode_of c names)
  pub only : (path : List ℕ) (node : Node) → map.get paths path ≡ Some node → (names : List (List ℕ)) × ArePieces names × (path ≡ path_text names)
  pub back : (names : List (List ℕ)) (inode : ℕ) → ArePieces names → inode_of c names ≡ Some inode → ((c.forms inode).kind == 2) ≡ false → n.inode (n.file inode) ≡ Some inode

-- ---- what a file has on the disk

-- a size, and the blocks that hold it
pub record Shape : Type 0 where
  pub size : ℕ
  pub holds : List ℕ

-- nothing, where it has no inode yet
abbrev pub shape_of : Catalog → Option ℕ → Shape
shape_of c None = record { size = 0; holds = [] }
shape_of c (Some inode) = record { size = (c.forms inode).size; holds = blocks_of (c.forms inode) }

-- A crash may leave this byte at this place.
pub record MayHave (blocks : ℕ → Cell) (shape : Shape) (place byte : ℕ) : Type 0 where
  pub block : ℕ
  pub there : slice_get shape.holds (place / BLOCK) ≡ Some block
  pub has : HasByte (possible (blocks block)) (place % BLOCK) byte

-- Whatever a crash leaves of it shows so many changes.
pub record AlwaysShows (blocks : ℕ → Cell) (shape : Shape) (opening : List ℕ) (changes : List FileChange) (count : ℕ) : Type 0 where
  pub made : count ≤ length changes
  pub size : shape.size ≡ length (bytes_after opening changes count)
  pub each : (place byte : ℕ) → place < shape.size → MayHave blocks shape place byte → MayShow opening changes count place byte

-- ---- the promise

-- The names are those after so many of their changes. Each file that they name, or that later names do, shows so many of its
-- changes, whatever a crash leaves in its blocks, in which nothing is folded.
pub record IsStandStored (g : Geometry) (blocks : ℕ → Cell) (s : Stand) (start : PosixTree) (history : List Entry) (names : ℕ) (files : ℕ → ℕ) (n : Numbers) : Type 0 where
  pub made : names ≤ length (name_changes start history)
  pub paths : IsNumberedBy s.catalog n (names_after start history names).paths
  pub inodes : (file inode : ℕ) → n.inode file ≡ Some inode → IsInode g inode × ((s.catalog.forms inode).kind ≡ 1)
  pub unheld : (inode place block : ℕ) → HasBlock g s.catalog inode place block → (s.catalog.forms inode).kind ≡ 1 → is_held s.log block ≡ false
  pub shown : (count file : ℕ) → names ≤ count → count ≤ length (name_changes start history) → IsNamed (names_after start history count).paths file
      → AlwaysShows blocks (shape_of s.catalog (n.inode file)) (bytes_of start.bytes file) (changes_of file start history) (files file)
  pub fresh : (file : ℕ) → (tree_after start history).next ≤ file → (files file ≡ 0) × (n.inode file ≡ None)

-- Besides, these numbers cover what is acknowledged.
pub record IsStandKept (g : Geometry) (blocks : ℕ → Cell) (s : Stand) (start : PosixTree) (history : List Entry) (names : ℕ) (files : ℕ → ℕ) (n : Numbers) : Type 0 where
  pub stored : IsStandStored g blocks s start history names files n
  pub covers : IsCovering start history names files

-- ---- what an image opens to

abbrev pub path_node_of : NodeBytes → PathNode
path_node_of None = path_node.Dir
path_node_of (Some bytes) = path_node.File bytes

-- the tree of an image, as a tree of paths
abbrev pub paths_of : ImageTree → PathNodes
paths_of tree = mapped path_node_of tree

-- The image opens to a tree that the history explains.
pub record OpensExplained (sectors : ℕ) (start : PosixTree) (history : List Entry) (image : Image) : Type 0 where
  pub tree : ImageTree
  pub opened : opens sectors image ≡ Ok tree
  pub explained : IsExplained (paths_of tree) start history

-- Its first entries explain it, for each number of them between two.
pub record OpensExplainedFrom (sectors : ℕ) (start : PosixTree) (history : List Entry) (from to : ℕ) (image : Image) : Type 0 where
  pub tree : ImageTree
  pub opened : opens sectors image ≡ Ok tree
  pub explained : IsExplainedFrom (paths_of tree) start history from to

-- ---- a whole ledger

-- how many changes of names, and of each file, stand on the disk, and which inodes the files have there
pub record Counts : Type 0 where
  pub names : ℕ
  pub files : ℕ → ℕ
  pub numbers : Numbers

abbrev pub IsKeptBy : Geometry → (ℕ → Cell) → Stand → PosixTree → List Entry → Counts → Type 0
IsKeptBy g blocks s start history k = IsStandKept g blocks s start history k.names k.files k.numbers

-- So it is for what is committed, and for what a crash may leave too.
pub record IsLedgerKept (l : Ledger) (start : PosixTree) (history : List Entry) (now maybe : Counts) : Type 0 where
  pub here : IsKeptBy (geometry_of l.superblock) l.blocks l.now start history now
  pub there : (other : Standing) → l.maybe ≡ Some other → (geometry_of other.superblock ≡ geometry_of l.superblock) × IsKeptBy (geometry_of l.superblock) l.blocks other.stand start history maybe

-- The same without what is acknowledged.
pub record IsLedgerStored (l : Ledger) (start : PosixTree) (history : List Entry) (now maybe : Counts) : Type 0 where
  pub here : IsStandStored (geometry_of l.superblock) l.blocks l.now start history now.names now.files now.numbers
  pub there : (other : Standing) → l.maybe ≡ Some other → (geometry_of other.superblock ≡ geometry_of l.superblock) × IsStandStored (geometry_of l.superblock) l.blocks other.stand start history maybe.names maybe.files maybe.numbers

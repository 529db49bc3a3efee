-- The files of an image, of which nothing was read.
use Rattle.std.specs.Prelude.{ℕ, ◌≡◌, ◌≤◌, ◌*◌, List, map, length, Option, Some, None, slice_index_or}
use Rattle.std.specs.FinMap as fin
use Rattle.ufs_base.specs.Images.{Image}
use Rattle.ufs_base.specs.declared.sizes.TheConstants.{BLOCK}
use Rattle.ufs_extent.specs.Runs.{blocks_of}
use Rattle.ufs_file.specs.Content.{block_count, unread}
use Rattle.ufs_file.specs.Hand.{FileState}
use Rattle.ufs_file.specs.Table.{max_held}
use Rattle.ufs_files.specs.Files.{Files}
use Rattle.ufs_image.specs.Catalog.{Catalog, IsInode}
use Rattle.ufs_image.specs.Images.{form_at, inode_at}
use Rattle.ufs_image.specs.Nodes as nodes
use Rattle.ufs_image.specs.Opens.{file_bytes}
use Rattle.ufs_layout.specs.Areas.{all_inodes}
use Rattle.ufs_layout.specs.InodeForm.{InodeForm}
use Rattle.ufs_layout.specs.declared.geometry.Geometry.{Geometry}
use Rattle.ufs_name_tree.specs.NameTable.{NameTable, file_at}
use Rattle.ufs_names.specs.NamesPart.{NamesPart}
use Rattle.ufs_start.specs.Extents.{HasRuns, run_of}
use Rattle.ufs_start.specs.Starts.{AreNumbersOf, AreStartNames}
use Rattle.ufs_start.specs.Tables.{form_in}

-- The names tell these numbers, which stand by inode.
abbrev pub HasNumbers : NameTable → List (Option ℕ) → Type 0
HasNumbers t numbers = (inode file : ℕ) → slice_index_or numbers inode None ≡ Some file → file_at t inode ≡ Some file

-- the forms of inode 1, 2, .. are the image's
abbrev pub AreFormsOf : Geometry → Image → List (Option InodeForm) → Type 0
AreFormsOf g image forms = forms ≡ map (inode_at g image) (all_inodes g)

-- A file as a sound image has it: its extents are runs with room for its size, and that is one that a server can hold.
pub record IsSoundFile (form : InodeForm) : Type 0 where
  pub kind : form.kind ≡ 1
  pub runs : HasRuns form
  pub room : form.size ≤ BLOCK * length (nodes.blocks_of form)
  pub small : form.size ≤ max_held

-- By inode, each number is that of one such file.
pub record AreSoundFiles (forms : List (Option InodeForm)) (numbers : List (Option ℕ)) : Type 0 where
  pub each : (inode file : ℕ) → 1 ≤ inode → slice_index_or numbers inode None ≡ Some file → (f : InodeForm) × (form_in forms inode ≡ Some f) × IsSoundFile f
  pub once : (inode other file : ℕ) → slice_index_or numbers inode None ≡ Some file → slice_index_or numbers other None ≡ Some file → inode ≡ other

-- Each file has as many bytes on the image as its inode tells: its extents have room for them.
abbrev pub AreSized : Geometry → Image → Type 0
AreSized g image = (inode : ℕ) → IsInode g inode → (form_at g image inode).kind ≡ 1 → length (file_bytes image (form_at g image inode)) ≡ (form_at g image inode).size

-- Of no file anything was read: each has the size that its inode tells.
abbrev pub AreUnread : Catalog → Files → Type 0
AreUnread c files = (file : ℕ) (s : FileState) → fin.get files file ≡ Some s → s.content ≡ unread (c.forms s.inode).size

-- A file lies where its inode says, in as many blocks as its size wants, and has a mark for each.
pub record IsLaid (c : Catalog) (s : FileState) : Type 0 where
  pub extents : s.extents ≡ map run_of (c.forms s.inode).extents
  pub count : length (blocks_of s.extents) ≡ block_count (c.forms s.inode).size
  pub marks : length s.content.dirty ≡ length (blocks_of s.extents)

abbrev pub AreLaid : Catalog → Files → Type 0
AreLaid c files = (file : ℕ) (s : FileState) → fin.get files file ≡ Some s → IsLaid c s

-- ---- laws

-- The names of an image's start tell the numbers that its files have.
abbrev pub StartsTellNumbers : Type 0
StartsTellNumbers = (sectors : ℕ) (disk : Image) (g : Geometry) (image : Image) (n : NamesPart) (numbers : List (Option ℕ)) → AreStartNames sectors disk g image n → AreNumbersOf g image numbers → HasNumbers n.tree numbers

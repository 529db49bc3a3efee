-- The directories that were read, and a table of them by inode.
use Rattle.std.specs.Prelude.{ℕ, ◌≡◌, ◌≢◌, ◌<◌, ◌≤◌, ◌-◌, List, Bool, true, Option, Some, None, map, length, slice_get, slice_index_or}
use Rattle.std.specs.List.{enumerate_from}
use Rattle.ufs_layout.specs.InodeForm.{InodeForm, is_used}
use Rattle.ufs_layout.specs.DentryForm.{DentryForm}
use Rattle.ufs_image.specs.Nodes.{Dir, ReadSlot, blocks_of}
use Rattle.ufs_dirs.specs.Directory.{Directory, IsDirectory}
use Rattle.ufs_dir_tree.specs.DirTable.{no_dir}
use Rattle.ufs_start.specs.Extents.{HasRuns}

-- by the forms of inode 1, 2, .. in order
abbrev pub form_in : List (Option InodeForm) → ℕ → Option InodeForm
form_in forms inode = slice_index_or forms (inode - 1) None

-- an inode that is off its form isn't free
abbrev pub is_used_form : Option InodeForm → Bool
is_used_form None = true
is_used_form (Some form) = is_used form

abbrev pub is_used_in : List (Option InodeForm) → ℕ → Bool
is_used_in forms inode = is_used_form (form_in forms inode)

-- What was read of slots makes a directory with these blocks.
pub record IsWholeDir (blocks : List ℕ) (read : List (Option DentryForm)) : Type 0 where
  pub slots : List DentryForm
  pub all : read ≡ map Some slots
  pub whole : IsDirectory (record { blocks = blocks; slots = slots })

-- The inode is on its form, its extents are runs, and what was read of its slots makes a directory with their blocks.
pub record IsSoundDir (form : Option InodeForm) (read : List ReadSlot) : Type 0 where
  pub node : InodeForm
  pub there : form ≡ Some node
  pub runs : HasRuns node
  pub slots : List (Option DentryForm)
  pub placed : read ≡ enumerate_from 0 slots
  pub whole : IsWholeDir (blocks_of node) slots

-- Each directory that was read is such a one, of an inode that was read, and they stand by rising inode.
pub record AreSoundDirs (forms : List (Option InodeForm)) (read : List Dir) : Type 0 where
  pub each : (p : ℕ) (d : Dir) → slice_get read p ≡ Some d → IsSoundDir (form_in forms d.inode) d.slots
  pub from_one : (p : ℕ) (d : Dir) → slice_get read p ≡ Some d → 1 ≤ d.inode
  pub within : (p : ℕ) (d : Dir) → slice_get read p ≡ Some d → d.inode ≤ length forms
  pub rising : (p q : ℕ) (d e : Dir) → p < q → slice_get read p ≡ Some d → slice_get read q ≡ Some e → d.inode < e.inode

-- From this place on no directory was read of a lower inode.
abbrev pub AreFrom : List Dir → (next inode : ℕ) → Type 0
AreFrom read next inode = (p : ℕ) (d : Dir) → next ≤ p → slice_get read p ≡ Some d → inode ≤ d.inode

-- The directory has the blocks of this form, and the slots that were read.
pub record IsAsRead (form : Option InodeForm) (read : List ReadSlot) (d : Directory) : Type 0 where
  pub blocks : (f : InodeForm) → form ≡ Some f → d.blocks ≡ blocks_of f
  pub slots : read ≡ enumerate_from 0 (map Some d.slots)

-- The first so many of the directories that were read stand at their inodes, and no other has a block.
pub record AreReadIn (forms : List (Option InodeForm)) (read : List Dir) (end : ℕ) (table : List Directory) : Type 0 where
  pub within : (p : ℕ) (d : Dir) → p < end → slice_get read p ≡ Some d → d.inode < length table
  pub each : (p : ℕ) (d : Dir) → p < end → slice_get read p ≡ Some d → IsAsRead (form_in forms d.inode) d.slots (slice_index_or table d.inode no_dir)
  pub others : (inode : ℕ) → ((p : ℕ) (d : Dir) → p < end → slice_get read p ≡ Some d → d.inode ≢ inode) → slice_index_or table inode no_dir ≡ no_dir

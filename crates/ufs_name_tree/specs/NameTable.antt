-- The directories of a tree by their inodes, and which file each other inode is.
use Rattle.std.specs.Prelude.{ℕ, ◌≡◌, ◌≢◌, List, [], length, Option, Some, None, IsSome, slice_index_or, unwrap_or, refl}
use Rattle.std.specs.Option.{option_map}
use Rattle.std.specs.Coded.{Coded, code_by, coded×, coded_ℕ, coded_list, coded_option}
use Rattle.ufs_base.specs.declared.lack.Lack.{Lack}
use Rattle.ufs_base.specs.contracts.lack.Lack as lack
use Rattle.ufs_model.specs.declared.data.Node.{Node}
use Rattle.ufs_model.specs.declared.data.Node.TheVariants as node
use Rattle.ufs_dir_tree.specs.DirTable.{DirTable, IsDirTable, IsUsed, blocks_at, found_at, table_code}
use Rattle.ufs_dir_tree.specs.declared.found.Found.{Found}
use Rattle.ufs_dir_tree.specs.declared.found.Found.TheVariants.{Dir, File}
use Rattle.ufs_ilog.specs.Notes.{Noted}
use Rattle.ufs_ilog.specs.contracts.name_notes.NameNotes as notes
use Rattle.ufs_name_tree.specs.Nodes.{Nodes}

pub record NameTable : Type 0 where
  pub dirs : DirTable
  -- by inode from 0, the number of the file that it is; none where it is no file's
  pub files : List (Option ℕ)
  -- the records of the changes that are noted, or none
  pub noted : Noted
  -- for want of what the notes were lost, where they were
  pub lost : Option Lack

-- the number of the file that the inode is
abbrev pub file_at : NameTable → ℕ → Option ℕ
file_at t i = slice_index_or t.files i None

-- what a tree says of it
abbrev pub node_of : NameTable → Found → Node
node_of t (Dir i) = node.Dir
node_of t (File i) = node.File (unwrap_or (file_at t i) 0)

-- what stands at the end of these names
abbrev pub node_at : NameTable → Nodes
node_at t names = option_map (node_of t) (found_at t.dirs names)

-- the file has an inode
abbrev pub IsNumbered : NameTable → ℕ → Type 0
IsNumbered t file = (i : ℕ) × (file_at t i ≡ Some file)

-- what is true of every table
pub record IsNameTable (t : NameTable) : Type 0 where
  pub table : IsDirTable t.dirs
  pub counted : length t.files ≡ length t.dirs.dirs
  -- each file that is met has its number
  pub named : (names : List (List ℕ)) (i : ℕ) → found_at t.dirs names ≡ Some (File i) → IsSome (file_at t i)
  -- an inode that is a file's is used, no directory, and has no block as one
  pub used : (i f : ℕ) → file_at t i ≡ Some f → IsUsed t.dirs i
  pub no_dir : (i f : ℕ) (names : List (List ℕ)) → file_at t i ≡ Some f → found_at t.dirs names ≢ Some (Dir i)
  pub bare : (i f : ℕ) → file_at t i ≡ Some f → blocks_at t.dirs i ≡ []
  -- a file has one inode
  pub once : (i j f : ℕ) → file_at t i ≡ Some f → file_at t j ≡ Some f → i ≡ j

-- ---- stored as its parts

abbrev pub name_table_code : Coded NameTable
name_table_code = code_by (DirTable × (List (Option ℕ) × (Noted × Option Lack))) (coded× table_code (coded× (coded_list (coded_option coded_ℕ)) (coded× notes.the_row.coded (coded_option lack.the_row.coded))))
    (λ t. (t.dirs, (t.files, (t.noted, t.lost)))) (λ p. record { dirs = p.0; files = p.1.0; noted = p.1.1.0; lost = p.1.1.1 }) (λ _. refl)

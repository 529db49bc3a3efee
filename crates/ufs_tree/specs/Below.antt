-- What a whole path consists of, and what lies below a directory, by the text.
use Rattle.std.specs.Prelude.{ℕ, ◌≡◌, ◌≤◌, ◌<◌, ◌-◌, List, [], true, length, map, filter, drop, slice_index, if◌then◌else◌}
use Rattle.std.specs.Map.{keys_of}
use Rattle.std.specs.Str.{bytes_eq}
use Rattle.ufs_model.specs.Directories.{is_entry_of, last_name}
use Rattle.ufs_model.proofs.Facts.Pieces.{is_free}
use Rattle.ufs_model.specs.Paths.{components}
use Rattle.ufs_model.specs.PosixTree.{root}
use Rattle.ufs_model.specs.declared.data.Node.{Node}

-- what stands before the slash in the paths of a directory's entries
abbrev pub front : List ℕ → List ℕ
front dir = if bytes_eq dir root then [] else dir

-- the place after the last slash, or the start where there is none
pub record IsNameStart (path : List ℕ) (end : ℕ) : Type 0 where
  pub within : end ≤ length path
  pub free : is_free (drop end path) ≡ true
  pub slash : 0 < end → slice_index path (end - 1) ≡ 47

-- the names of those that are entries of the directory
abbrev pub names_among : List (List ℕ × Node) → List ℕ → List (List ℕ)
names_among nodes dir = map (λ path. last_name (components path)) (filter (is_entry_of dir) (keys_of nodes))

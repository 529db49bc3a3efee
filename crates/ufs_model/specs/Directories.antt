-- What a directory has in it, and what its new name changes.
use Rattle.std.specs.Prelude.{ℕ, List, [], ◌∷◌, ◌++◌, Bool, ◌&&◌, ◌||◌, not, length, take, drop, map, filter, if◌then◌else◌}
use Rattle.std.specs.List.{list_any}
use Rattle.std.specs.Str.{bytes_eq}
use Rattle.std.specs.FinMap as fin
use Rattle.ufs_model.specs.Paths.{components, parent_of}
use Rattle.ufs_model.specs.PosixTree.{Paths, root}

-- ---- entries

-- the path is an entry of the directory
abbrev pub is_entry_of : List ℕ → List ℕ → Bool
is_entry_of dir path = bytes_eq (parent_of path) dir && not (bytes_eq path root)

-- the paths of a directory's entries, in rising byte order
abbrev pub entry_paths : Paths → List ℕ → List (List ℕ)
entry_paths paths dir = filter (is_entry_of dir) (fin.keys paths)

abbrev pub entry_count : Paths → List ℕ → ℕ
entry_count paths dir = length (entry_paths paths dir)

abbrev pub has_entries : Paths → List ℕ → Bool
has_entries paths dir = list_any (is_entry_of dir) (fin.keys paths)

-- the last of some names
abbrev pub last_name : List (List ℕ) → List ℕ
last_name [] = []
last_name (name ∷ []) = name
last_name (name ∷ next ∷ names) = last_name (next ∷ names)

-- the names of a directory's entries
abbrev pub entry_names : Paths → List ℕ → List (List ℕ)
entry_names paths dir = map (λ path. last_name (components path)) (entry_paths paths dir)

-- ---- what lies below

abbrev pub starts_with : List ℕ → List ℕ → Bool
starts_with front path = bytes_eq (take (length front) path) front

-- the path lies below the directory, which isn't the root
abbrev pub is_below : List ℕ → List ℕ → Bool
is_below dir path = starts_with (dir ++ 47 ∷ []) path

-- the path with a new name for what stands at it or above it
abbrev pub renamed_path : List ℕ → List ℕ → List ℕ → List ℕ
renamed_path from to path = if bytes_eq path from || is_below from path then to ++ drop (length from) path else path

-- The paths after a new name: what stood at the new name goes, and each path at or below the old name is rewritten.
abbrev pub renamed : Paths → List ℕ → List ℕ → Paths
renamed paths from to = fin.from_entries (map (λ e. (renamed_path from to e.0, e.1)) (fin.entries (fin.remove paths to)))

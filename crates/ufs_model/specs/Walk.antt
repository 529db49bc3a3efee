-- The walk along a path's components, and what stands at its end.
use Rattle.std.specs.Prelude.{ℕ, List, [], ◌∷◌, ◌++◌, Bool, true, false, Option, Some, None}
use Rattle.std.specs.FinMap as map
use Rattle.ufs_base.specs.Choices.{first_of}
use Rattle.ufs_model.specs.Paths.{components, text_refusal, whole_path, whole_of}
use Rattle.ufs_model.specs.PosixTree.{Paths}
use Rattle.ufs_model.specs.declared.data.Errno.{Errno}
use Rattle.ufs_model.specs.declared.data.Errno.TheVariants.{Enoent, Enotdir}
use Rattle.ufs_model.specs.declared.data.Node.{Node}
use Rattle.ufs_model.specs.declared.data.Node.TheVariants.{Dir, File}

-- what is there has to be a directory
abbrev pub dir_refusal : Option Node → Option Errno
dir_refusal None = Some Enoent
dir_refusal (Some Dir) = None
dir_refusal (Some (File f)) = Some Enotdir

-- Below the components above, each component but the last has to be a directory that is there.
abbrev pub walk_refusal_from : Paths → List (List ℕ) → List (List ℕ) → Option Errno
walk_refusal_from paths above [] = None
walk_refusal_from paths above (name ∷ []) = None
walk_refusal_from paths above (name ∷ next ∷ names) =
    first_of (dir_refusal (map.get paths (whole_path (above ++ name ∷ [])))) (walk_refusal_from paths (above ++ name ∷ []) (next ∷ names))

abbrev pub walk_refusal : Paths → List ℕ → Option Errno
walk_refusal paths path = walk_refusal_from paths [] (components path)

-- first the text, then the walk
abbrev pub path_refusal : Paths → List ℕ → Option Errno
path_refusal paths path = first_of (text_refusal path) (walk_refusal paths path)

-- what stands at the end of a path that isn't refused
abbrev pub node_at : Paths → List ℕ → Option Node
node_at paths path = map.get paths (whole_of path)

-- a file stands there
abbrev pub is_file : Option Node → Bool
is_file None = false
is_file (Some Dir) = false
is_file (Some (File f)) = true

-- the number of the file that stands there
abbrev pub file_of : Option Node → Option ℕ
file_of None = None
file_of (Some Dir) = None
file_of (Some (File f)) = Some f

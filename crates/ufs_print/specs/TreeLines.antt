-- The lines of the tree that an image stands for, and of why there is none.
use Rattle.std.specs.Prelude.{ℕ, List, [], ◌∷◌, ◌++◌, length, take, flat_map, nat_le, if◌then◌else◌, Some, None, codes}
use Rattle.std.specs.Fmt.{decimal}
use Rattle.std.specs.FinMap.{entries}
use Rattle.ufs_script.specs.Spelling.{data_text}
use Rattle.ufs_image.specs.Opens.{NodeBytes, PathEntry, ImageTree}
use Rattle.ufs_image.specs.Volume.{Refusal, NoSuperblock, BadVersion, BadGeometry, BadRecord, BadTree}
use Rattle.ufs_opening.specs.declared.head.NodeHead.{NodeHead}
use Rattle.ufs_opening.specs.declared.head.NodeHead.TheVariants.{Dir, File}
use Rattle.ufs_opening.specs.declared.head.PathHead.{PathHead}
use Rattle.ufs_print.specs.Lines.{line}

-- the most bytes of a file that its line shows
abbrev pub most_shown : ℕ
most_shown = 64

-- the first bytes of a file in hexadecimal, a dash where it has none, and a plus behind them where it has more
abbrev pub bytes_text : List ℕ → List ℕ
bytes_text bytes = data_text (take most_shown bytes) ++ (if nat_le (length bytes) most_shown then [] else codes "+")

-- a directory's path; a file's path, size and first bytes
abbrev pub node_line : List ℕ → NodeBytes → List ℕ
node_line path None = line (codes "dir " ++ path)
node_line path (Some bytes) = line (codes "file " ++ path ++ 32 ∷ decimal (length bytes) ++ 32 ∷ bytes_text bytes)

abbrev pub tree_line : PathEntry → List ℕ
tree_line e = node_line e.0 e.1

-- a line for each path, by rising bytes of the whole path
abbrev pub tree_lines : ImageTree → List ℕ
tree_lines tree = flat_map tree_line (entries tree)

-- ---- the same of what was read of the tree

-- a file's first bytes, and a plus behind them where it has more
abbrev pub front_text : ℕ → List ℕ → List ℕ
front_text size front = data_text front ++ (if nat_le size most_shown then [] else codes "+")

abbrev pub node_head_line : List ℕ → NodeHead → List ℕ
node_head_line path Dir = line (codes "dir " ++ path)
node_head_line path (File size front) = line (codes "file " ++ path ++ 32 ∷ decimal size ++ 32 ∷ front_text size front)

abbrev pub head_line : PathHead → List ℕ
head_line h = node_head_line h.path h.node

abbrev pub head_lines : List PathHead → List ℕ
head_lines hs = flat_map head_line hs

-- ---- why there is none

abbrev pub numbered_line : List ℕ → ℕ → List ℕ
numbered_line name number = line (codes "ufs: image: " ++ name ++ 32 ∷ decimal number)

-- the cause and its number
abbrev pub refusal_line : Refusal → List ℕ
refusal_line NoSuperblock = line (codes "ufs: image: NoSuperblock")
refusal_line (BadVersion version) = numbered_line (codes "BadVersion") version
refusal_line (BadGeometry number) = numbered_line (codes "BadGeometry") number
refusal_line (BadRecord sector) = numbered_line (codes "BadRecord") sector
refusal_line (BadTree inode) = numbered_line (codes "BadTree") inode

-- The lines of what was read of a tree.
use Rattle.std.proofs.Common.{◌≡◌, inr, ℕ, ◌<◌, ◌≤◌, List, [], ◌∷◌, ◌++◌, Bool, true, false, Some, None, ap, refl, ◌∙◌, arith}
use Rattle.std.specs.Prelude.{codes, nat_le, if◌then◌else◌, flat_map}
use Rattle.std.specs.Fmt.{decimal}
use Rattle.std.specs.FinMap as fin
use Rattle.std.proofs.lemmas.List.{append-nil}
use Rattle.ufs_image.specs.Opens.{ImageTree, NodeBytes, PathEntry}
use Rattle.ufs_opening.specs.Heads.{heads_of, node_head}
use Rattle.ufs_opening.specs.declared.head.NodeHead.{NodeHead}
use Rattle.ufs_opening.specs.declared.head.NodeHead.TheVariants.{Dir, File}
use Rattle.ufs_opening.specs.declared.head.PathHead.{PathHead}
use Rattle.ufs_script.specs.Spelling.{data_text}
use Rattle.ufs_print.specs.TreeLines.{front_text, head_line, head_lines, node_head_line, node_line, tree_line, tree_lines}
use Rattle.ufs_print.proofs.WriteLemmas.{IsEnded}

-- ---- the bytes that are shown

abbrev behind : Bool → List ℕ
behind b = if b then [] else codes "+"

pub short_text : (size : ℕ) (front : List ℕ) → size ≤ 64 → front_text size front ≡ data_text front
short_text size front few =
    let all : nat_le size 64 ≡ true = grind (arith, few) in
    ap (λ b. data_text front ++ behind b) all ∙ append-nil (data_text front)

pub long_text : (size : ℕ) (front : List ℕ) → 64 < size → front_text size front ≡ data_text front ++ 43 ∷ []
long_text size front many =
    let more : nat_le size 64 ≡ false = grind (arith, many) in
    ap (λ b. data_text front ++ behind b) more

-- ---- lines

-- a line ends with a line end
pub head_ended : (h : PathHead) → IsEnded (head_line h)
head_ended h = of h.path h.node
  where
    of : (path : List ℕ) (node : NodeHead) → IsEnded (node_head_line path node)
    of path Dir = inr (codes "dir " ++ path, refl)
    of path (File size front) = inr (codes "file " ++ path ++ 32 ∷ decimal size ++ 32 ∷ front_text size front, refl)

same_lines : (es : List PathEntry) → head_lines (heads_of (Some 64) es) ≡ flat_map tree_line es
same_lines [] = refl
same_lines (e ∷ es) = (λ i. one e.0 e.1 i ++ same_lines es i)
  where
    one : (path : List ℕ) (node : NodeBytes) → node_head_line path (node_head (Some 64) node) ≡ node_line path node
    one path None = refl
    one path (Some bytes) = refl

-- the lines of a tree's heads are those of the tree
pub tree_lines_are : (hs : List PathHead) (tree : ImageTree) → hs ≡ heads_of (Some 64) (fin.entries tree) → head_lines hs ≡ tree_lines tree
tree_lines_are hs tree are = ap head_lines are ∙ same_lines (fin.entries tree)

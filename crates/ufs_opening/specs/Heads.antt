-- What stands at the paths of an image, with the first bytes of its files.
use Rattle.std.specs.Prelude.{ℕ, ◌≡◌, ◌≤◌, ◌⊎◌, List, length, take, map, min, Bool, IsTrue, Option, Some, None, Ok}
use Rattle.std.specs.FinMap.{entries}
use Rattle.ufs_base.specs.Images.{Image}
use Rattle.ufs_image.specs.Opens.{NodeBytes}
use Rattle.ufs_image.specs.Opens as image
use Rattle.ufs_model.specs.declared.data.PathEntry.{PathEntry}
use Rattle.ufs_model.specs.declared.data.PathNode.{PathNode}
use Rattle.ufs_model.specs.declared.data.PathNode.TheVariants as node
use Rattle.ufs_opening.specs.declared.head.NodeHead.{NodeHead}
use Rattle.ufs_opening.specs.declared.head.NodeHead.TheVariants.{Dir, File}
use Rattle.ufs_opening.specs.declared.head.PathHead.{PathHead}

-- at most so many of the bytes, or all of them
abbrev pub cut : Option ℕ → List ℕ → List ℕ
cut None bytes = bytes
cut (Some most) bytes = take most bytes

-- a file's size, and at most so many of its bytes
abbrev pub node_head : Option ℕ → NodeBytes → NodeHead
node_head most None = Dir
node_head most (Some bytes) = File (length bytes) (cut most bytes)

abbrev pub path_head : Option ℕ → image.PathEntry → PathHead
path_head most e = record { path = e.0; node = node_head most e.1 }

abbrev pub heads_of : Option ℕ → List image.PathEntry → List PathHead
heads_of most es = map (path_head most) es

-- The heads are those of a tree, by rising bytes of its paths; a visible disk stands for this tree.
pub record HasHeads (visible : Bool) (sectors : ℕ) (disk : Image) (most : Option ℕ) (heads : List PathHead) : Type 0 where
  pub tree : image.ImageTree
  pub opened : IsTrue visible → image.opens sectors disk ≡ Ok tree
  pub same : heads ≡ heads_of most (entries tree)

-- ---- the steps

-- how many bytes that is of a file of this size
abbrev pub enough_of : Option ℕ → ℕ → ℕ
enough_of None size = size
enough_of (Some most) size = min most size

-- It is the head of something.
abbrev pub IsHead : Option ℕ → NodeHead → Type 0
IsHead most n = (node : NodeBytes) × (n ≡ node_head most node)

abbrev pub AreHeads : Option ℕ → List PathHead → Type 0
AreHeads most hs = (es : List image.PathEntry) × (hs ≡ heads_of most es)

-- The bytes are the whole, or enough of its first ones.
abbrev pub IsFrontOf : ℕ → List ℕ → List ℕ → Type 0
IsFrontOf enough bytes whole = (bytes ≡ whole) ⊎ ((enough ≤ length bytes) × (take enough bytes ≡ take enough whole))

abbrev pub paths_of : List PathHead → List (List ℕ)
paths_of hs = map (λ (h : PathHead). h.path) hs

abbrev pub pairs_of : List PathHead → List (List ℕ × NodeHead)
pairs_of hs = map (λ (h : PathHead). (h.path, h.node)) hs

-- a path with a whole file
abbrev pub whole_node : NodeHead → PathNode
whole_node Dir = node.Dir
whole_node (File size front) = node.File front

abbrev pub whole_entry : PathHead → PathEntry
whole_entry h = record { path = h.path; node = whole_node h.node }

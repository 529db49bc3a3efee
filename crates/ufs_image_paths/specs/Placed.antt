-- When paths form a tree, told path by path.
use Rattle.std.specs.Prelude.{ℕ, ◌≡◌, ◌≢◌, ◌+◌, ◌<◌, ◌⊎◌, List, [], ◌∷◌, ◌++◌, length, take, drop, true, Option, Some, None, slice_get}
use Rattle.std.specs.Borrow.{Bor}
use Rattle.std.specs.FinMap as map
use Rattle.ufs_model.specs.PathEntries.{nodes_of}
use Rattle.ufs_model.specs.Paths.{component_refusal}
use Rattle.ufs_model.specs.PosixTree.{root}
use Rattle.ufs_model.specs.Start.{PathNodes, is_path_dir}
use Rattle.ufs_model.specs.declared.data.PathEntry.{PathEntry}
use Rattle.ufs_model.specs.declared.data.PathNode.{PathNode}
use Rattle.ufs_model.proofs.Facts.Pieces.{IsPlain, is_free}

-- a name that may stand in a path
pub record IsPathName (name : List ℕ) : Type 0 where
  pub plain : IsPlain name
  pub allowed : component_refusal name ≡ None

-- the path of the directory that stands before a last slash
abbrev pub dir_above : List ℕ → List ℕ
dir_above [] = root
dir_above (b ∷ front) = b ∷ front

-- a name below a directory that is there
abbrev pub IsBelowDir : PathNodes → List ℕ → Type 0
IsBelowDir nodes path = (front : List ℕ) × (name : List ℕ) × (path ≡ front ++ 47 ∷ name) × (front ≢ root) × IsPathName name × (is_path_dir (map.get nodes (dir_above front)) ≡ true)

abbrev pub IsPlaced : PathNodes → List ℕ → Type 0
IsPlaced nodes path = (path ≡ root) ⊎ IsBelowDir nodes path

-- so each path of the entries is
abbrev pub ArePlaced : List PathEntry → Type 0
ArePlaced entries = (i : ℕ) (e : PathEntry) → slice_get entries i ≡ Some e → IsPlaced (nodes_of entries) e.path

-- ---- the steps

-- the last slash of a path, and what follows it
pub record IsLastSlash (path : List ℕ) (at : ℕ) : Type 0 where
  pub within : at < length path
  pub divided : path ≡ take at path ++ 47 ∷ drop (at + 1) path
  pub free : is_free (drop (at + 1) path) ≡ true

abbrev pub node_of : Option (Bor PathEntry) → Option PathNode
node_of None = None
node_of (Some e) = Some e.now.node

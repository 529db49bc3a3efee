-- Which map of whole paths a tree's names stand for.
use Rattle.std.specs.Prelude.{ℕ, ◌≡◌, List, None}
use Rattle.std.specs.FinMap as map
use Rattle.ufs_model.specs.Paths.{components_refusal, whole_path}
use Rattle.ufs_model.specs.PosixTree.{Paths}
use Rattle.ufs_model.proofs.Facts.Pieces.{ArePlain}
use Rattle.ufs_name_tree.specs.Nodes.{Nodes}

-- At each whole path stands what stands at its names. Names have bytes and no slash: an empty one would spell another
-- path.
abbrev pub Stands : Nodes → Paths → Type 0
Stands at paths = (names : List (List ℕ)) → ArePlain names → components_refusal names ≡ None → map.get paths (whole_path names) ≡ at names

-- Which tree of paths an image stands for.
use Rattle.std.specs.Prelude.{ℕ, ◌≡◌, Ok}
use Rattle.ufs_base.specs.Images.{Image}
use Rattle.ufs_image.specs.Opens.{ImageTree, opens}
use Rattle.ufs_ledger.specs.Kept.{paths_of}
use Rattle.ufs_model.specs.Start.{PathNodes}

-- The image stands for a tree, and these are its paths.
pub record IsTreeOf (sectors : ℕ) (image : Image) (nodes : PathNodes) : Type 0 where
  pub tree : ImageTree
  pub opened : opens sectors image ≡ Ok tree
  pub same : nodes ≡ paths_of tree

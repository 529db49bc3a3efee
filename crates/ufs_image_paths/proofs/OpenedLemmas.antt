-- The paths of a visible disk's image form a tree.
use Rattle.std.proofs.Common.{◌≡◌, ℕ, Option, Some, None, Ok, ap, sym, subst, refl, ◌∙◌}
use Rattle.std.specs.Option.{option_map}
use Rattle.std.specs.FinMap as map
use Rattle.std.specs.FinMap.{same_map}
use Rattle.ufs_base.specs.Images.{Image}
use Rattle.ufs_image.specs.Opens.{opens}
use Rattle.ufs_ledger.specs.Kept.{path_node_of, paths_of}
use Rattle.ufs_model.specs.Start.{IsPathTree, PathNodes}
use Rattle.ufs_model.specs.declared.data.PathNode.{PathNode}
use Rattle.ufs_model.specs.declared.data.PathNode.TheVariants as path_node
use Rattle.ufs_model.proofs.Facts.Orders.{path_total, path_same}
use Rattle.ufs_promise_laws.specs.Starts.{ImagesArePathTrees}
use Rattle.ufs_opening.specs.Shown.{bytes_of_node, image_tree}
use Rattle.ufs_crash_laws.proofs.Facts.Mapped.{get-mapped}
use Rattle.ufs_image_paths.specs.Opened.{IsTreeOf}

node_again : (o : Option PathNode) → option_map path_node_of (option_map bytes_of_node o) ≡ o
node_again None = refl
node_again (Some path_node.Dir) = refl
node_again (Some (path_node.File bytes)) = refl

paths_again : (nodes : PathNodes) → paths_of (image_tree nodes) ≡ nodes
paths_again nodes = same_map path_total path_same (paths_of (image_tree nodes)) nodes
    (λ q. get-mapped path_total path_node_of (image_tree nodes) q ∙ ap (option_map path_node_of) (get-mapped path_total bytes_of_node nodes q) ∙ node_again (map.get nodes q))

module _ (sectors : ℕ) (image : Image) (nodes : PathNodes) (opened : opens sectors image ≡ Ok (image_tree nodes)) where
  pub tree_of : IsTreeOf sectors image nodes
  tree_of = record { tree = image_tree nodes; opened = opened; same = sym (paths_again nodes) }

  pub is_paths : ImagesArePathTrees sectors → IsPathTree nodes
  is_paths law = subst IsPathTree (paths_again nodes) (law image (image_tree nodes) opened)

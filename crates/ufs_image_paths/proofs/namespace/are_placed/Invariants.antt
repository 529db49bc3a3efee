use Rattle.std.proofs.Common.{◌≡◌, ◌<◌, ℕ, Some, slice_get}
use Rattle.ufs_model.specs.PathEntries.{nodes_of}
use Rattle.ufs_model.specs.declared.data.PathEntry.{PathEntry}
use Rattle.ufs_image_paths.specs.Placed.{IsPlaced}
use Rattle.ufs_image_paths.proofs.namespace.are_placed.Given as goal

abbrev pub invariant-loop-i : goal.invariant-loop-i
invariant-loop-i l = (k : ℕ) (e : PathEntry) → k < l.i → slice_get l.entries k ≡ Some e → IsPlaced (nodes_of l.entries) e.path

-- Blocks at places of a file.
use Rattle.std.proofs.Common.{◌≡◌, ℕ, ◌||◌, Bool, true, Some, ap, ◌∙◌}
use Rattle.std.specs.List.{slice_get}
use Rattle.ufs_bitmap.specs.Taking.{has}
use Rattle.ufs_bitmap.proofs.TakingLemmas.{has-append}
use Rattle.ufs_extent.specs.Runs.{blocks_of}
use Rattle.ufs_file_commits.specs.State.{DurableState, blocks_held}
use Rattle.ufs_file_commits.proofs.Served.{has_at}

-- a block at a place is one that the file holds
pub held_at : (f : DurableState) (place block : ℕ) → slice_get (blocks_of f.file.extents) place ≡ Some block → has (blocks_held f) block ≡ true
held_at f place block at =
    has-append (blocks_of f.file.extents) (blocks_of f.dropped) block
    ∙ ap (λ (b : Bool). b || has (blocks_of f.dropped) block) (has_at (blocks_of f.file.extents) place block at)

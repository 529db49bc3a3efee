-- A file's blocks stay its own.
use Rattle.std.proofs.Common.{◌≡◌, ◌≤◌, ◌⊎◌, inl, inr, true, Some, length, ap, ◌∙◌}
use Rattle.std.specs.FinSet as set
use Rattle.std.specs.List.{slice_get}
use Rattle.ufs_extent.specs.Runs.{blocks_of}
use Rattle.ufs_ilog.specs.Deltas.{FileLog}
use Rattle.ufs_image.specs.Changes.{IsTakenBlock}
use Rattle.ufs_layout.specs.Superblock.{geometry_of}
use Rattle.ufs_file_commits.specs.Committing.{OwnsCommitted, OwnsServed}
use Rattle.ufs_file_commits.proofs.Served.{place_from}

pub owns_committed : OwnsCommitted
owns_committed l f noted place block at = inl (ap (λ rs. slice_get (blocks_of rs) place) noted.runs ∙ at)

pub owns_served : OwnsServed
owns_served l f g before after d request reply desc own free served place block at = by (place_from f g before after d request reply desc served place block at)
  where
    committed : slice_get (blocks_of g.log.committed.runs) place ≡ slice_get (blocks_of f.log.committed.runs) place
    committed = ap (λ (x : FileLog). slice_get (blocks_of x.committed.runs) place) served.logged

    was : (slice_get (blocks_of f.log.committed.runs) place ≡ Some block) ⊎ (IsTakenBlock (geometry_of l.superblock) l.now.catalog block → ⊥)
        → (slice_get (blocks_of g.log.committed.runs) place ≡ Some block) ⊎ (IsTakenBlock (geometry_of l.superblock) l.now.catalog block → ⊥)
    was (inl here) = inl (committed ∙ here)
    was (inr none) = inr none

    by : (slice_get (blocks_of f.file.extents) place ≡ Some block) ⊎ ((length (blocks_of f.file.extents) ≤ place) × (set.contains before block ≡ true))
        → (slice_get (blocks_of g.log.committed.runs) place ≡ Some block) ⊎ (IsTakenBlock (geometry_of l.superblock) l.now.catalog block → ⊥)
    by (inl there) = was (own place block there)
    by (inr (past, its)) = inr (free block its)

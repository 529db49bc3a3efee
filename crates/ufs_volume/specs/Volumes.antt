-- The volume that was read from a disk.
use Rattle.std.specs.Prelude.{ℕ, List, max}
use Rattle.std.specs.List.{fold}
use Rattle.ufs_base.specs.Images.{Image}
use Rattle.ufs_layout.specs.declared.records.Committed.{Committed}
use Rattle.ufs_image.specs.Journal.{committed}
use Rattle.ufs_image.specs.Fold.{folded}
use Rattle.ufs_image.specs.Volume.{Volume}
use Rattle.ufs_volume.specs.declared.volume.FoldedVolume.{FoldedVolume}

-- the transactions that are committed in its epoch
abbrev pub committed_in : FoldedVolume → Image → List Committed
committed_in v disk = committed v.superblock.geometry v.superblock.superblock.epoch disk

-- the sectors, as these transactions leave them
abbrev pub folded_image : FoldedVolume → Image → Image
folded_image v disk = folded v.superblock.geometry (committed_in v disk) disk

abbrev pub volume_in : FoldedVolume → Image → Volume
volume_in v disk = record { superblock = v.superblock.superblock; geometry = v.superblock.geometry; image = folded_image v disk }

-- the highest of their commit numbers; 0 where there are none
abbrev pub highest_number : List Committed → ℕ
highest_number transactions = fold (λ highest (c : Committed). max highest c.number) 0 transactions

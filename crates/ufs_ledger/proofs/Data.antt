-- What stands in the data blocks at each moment of a commit and of a checkpoint.
use Rattle.std.proofs.Common.{◌≡◌, ℕ, ◌≤◌, ◌⊎◌, inl, inr, List, Bool, false, length, refl, ◌∙◌, subst, arith}
use Rattle.ufs_disk.specs.Disk.{State, IsImage, Leaves, IsPartlyWritten, Mixes, put}
use Rattle.ufs_disk.specs.Moments.{Moments, LeavesOnly}
use Rattle.ufs_disk.proofs.Images.{put_one, put_other}
use Rattle.ufs_disk.proofs.Runs.{weaker, joined}
use Rattle.ufs_base.specs.Images.{Image}
use Rattle.ufs_image.specs.Agree.{IsOfBlock}
use Rattle.ufs_image.specs.Fold.{folded}
use Rattle.ufs_image.proofs.Blocks.{block_same}
use Rattle.ufs_layout.specs.declared.geometry.Geometry.{Geometry}
use Rattle.ufs_layout.specs.declared.records.Committed.{Committed}
use Rattle.ufs_journal.specs.Written.{DiffersInEpoch, SaysTheSame, CommitsOne, IsAppended, IsMaybeCommitted}
use Rattle.ufs_overlay.specs.Over.{IsHomeWritten}
use Rattle.ufs_ledger.specs.Ledger.{IsDataBlock, is_held}
use Rattle.ufs_ledger.specs.Data.{KeepsData}
use Rattle.ufs_ledger.proofs.Committing.{same_data}
use Rattle.ufs_ledger.proofs.Held.{unheld_sector}

module _ (g : Geometry) (log : List Committed) where
  pub data_stays : (state : State) (image : Image) → IsImage state image → KeepsData g log state image
  data_stays state image left = record { before = image; left = left; same = λ block data' free. refl }

  data_through : (old mid : State) → Leaves (KeepsData g log old) mid → (image : Image) → KeepsData g log mid image → KeepsData g log old image
  data_through old mid so_far image last =
      let from = so_far last.before last.left in
      record { before = from.before; left = from.left; same = λ block data' free. last.same block data' free ∙ from.same block data' free }

  module _ (keeps : Bool) (m0 m1 : Moments) where
    -- a read or a barrier
    pub data_quiet : LeavesOnly keeps (IsImage m0.state) m0 m1 → LeavesOnly keeps (KeepsData g log m0.state) m0 m1
    data_quiet run = weaker keeps (IsImage m0.state) (KeepsData g log m0.state) (data_stays m0.state) m0 m1 run

    -- one call more
    pub data_more : (m2 : Moments) (P : Image → Type 0) → LeavesOnly keeps (KeepsData g log m0.state) m0 m1 → LeavesOnly keeps P m1 m2 → ((image : Image) → P image → KeepsData g log m1.state image)
        → LeavesOnly keeps (KeepsData g log m0.state) m0 m2
    data_more m2 P so_far run leads =
        joined keeps (KeepsData g log m0.state) m0 m1 m2 so_far (weaker keeps P (KeepsData g log m0.state) (λ image has. data_through m0.state m1.state so_far.after image (leads image has)) m1 m2 run)

  pub data_appended : (epoch : ℕ) (state : State) (image : Image) → IsAppended g epoch state image → KeepsData g log state image
  data_appended epoch state image is = record { before = is.before; left = is.left; same = λ block data' free. same_data g epoch is.before image is.says.differs block data' }

  pub data_committed : (epoch : ℕ) (one : Committed) (state : State) (image : Image) → IsMaybeCommitted g epoch one state image → KeepsData g log state image
  data_committed epoch one state image is = record { before = is.before; left = is.left; same = λ block data' free. same_data g epoch is.before image (differs is.says) block data' }
    where
      differs : SaysTheSame g epoch is.before image ⊎ CommitsOne g epoch one is.before image → DiffersInEpoch g epoch is.before image
      differs (inl same) = same.differs
      differs (inr more) = more.differs

  pub data_home : (state : State) (image : Image) → IsHomeWritten g log state image → KeepsData g log state image
  data_home state image is = record { before = is.before; left = is.left; same = λ block data' free. block_same image is.before block (λ sector of. at block data' free sector of (is.mixed sector)) }
    where
      at : (block : ℕ) → IsDataBlock g block → is_held log block ≡ false → (sector : ℕ) → IsOfBlock block sector → (image sector ≡ is.before sector) ⊎ (image sector ≡ folded g log is.before sector) → image sector ≡ is.before sector
      at block data' free sector of (inl same) = same
      at block data' free sector of (inr home) = home ∙ unheld_sector g block data'.from sector of log is.before free

  -- a write of the superblock
  pub data_superblock_put : (bytes : List ℕ) (state : State) (image : Image) → length bytes ≡ 512 → IsPartlyWritten 0 bytes state image → KeepsData g log state image
  data_superblock_put bytes state image size is = record { before = is.before; left = is.left; same = λ block data' free. block_same image is.before block (λ sector of. at sector (let from = data'.from in let same = of.same in omega arith) (mixed sector)) }
    where
      mixed : Mixes is.before (put 0 bytes is.before) image
      mixed = subst (λ i. Mixes is.before i image) (put_one 0 bytes is.before size) is.mixed

      at : (sector : ℕ) → 1 ≤ sector → (image sector ≡ is.before sector) ⊎ (image sector ≡ put 0 bytes is.before sector) → image sector ≡ is.before sector
      at sector past (inl same) = same
      at sector past (inr new) = new ∙ put_other 0 sector bytes is.before (λ e. absurd (omega arith))

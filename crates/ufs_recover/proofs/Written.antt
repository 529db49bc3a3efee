-- What a disk has after a write of the superblock's sector, and after a write of a block.
use Rattle.std.proofs.Common.{◌≡◌, ◌≢◌, ◌⊎◌, inl, inr, ⊎_elim, Bool, ℕ, ◌+◌, ◌-◌, ◌*◌, ◌/◌, ◌<◌, ◌≤◌, List, length, take, drop, sym, ◌∙◌, ap, subst, arith}
use Rattle.std.proofs.lemmas.Bool.{cases_lt}
use Rattle.ufs_base.specs.Images.{Image}
use Rattle.ufs_disk.specs.Disk.{State, IsImage, Leaves, Mixes, IsPartlyWritten, overwritten, sectors_of}
use Rattle.ufs_disk.specs.Moments.{Moments, LeavesOnly}
use Rattle.ufs_disk.proofs.Images.{mixed_one, put_one, put_other, put_all_below, put_all_above, put_all_within}
use Rattle.ufs_disk.proofs.Flat.{length-pieces, pieces_at}
use Rattle.ufs_disk.proofs.Runs.{weaker, goes_on, goes_on_quietly}
use Rattle.ufs_recover.specs.Tables.{IsOutside, IsTableSector, IsTableBlock, HasTablesBelow}
use Rattle.ufs_recover.specs.Stopped.{IsBlank, HasSuperblockPut}
use Rattle.ufs_layout.specs.Areas.{first_of_data}
use Rattle.ufs_layout.specs.declared.geometry.Geometry.{Geometry}

-- ---- the superblock's sector

module _ (keeps : Bool) (bytes : List ℕ) (sized : length bytes ≡ 512) (old mid : Moments) (write : LeavesOnly keeps (IsPartlyWritten 0 bytes old.state) old mid) where
  has_superblock_put : (image : Image) → IsPartlyWritten 0 bytes old.state image → HasSuperblockPut bytes old.state image
  has_superblock_put image from =
      let one = mixed_one 0 bytes old.state image sized from in
      record { before = one.0; left = one.1; is = one.2 }

  pub superblock_written : LeavesOnly keeps (HasSuperblockPut bytes old.state) old mid
  superblock_written = weaker keeps (IsPartlyWritten 0 bytes old.state) (HasSuperblockPut bytes old.state) has_superblock_put old mid write

  pub superblock_settled : (new : Moments) → LeavesOnly keeps (IsImage mid.state) mid new → LeavesOnly keeps (HasSuperblockPut bytes old.state) old new
  superblock_settled new barrier = goes_on_quietly keeps (HasSuperblockPut bytes old.state) old mid new superblock_written barrier

pub superblock_others : (bytes : List ℕ) (d now : Image) → length bytes ≡ 512 → Mixes d (overwritten 0 bytes d) now → (s : ℕ) → s ≢ 0 → now s ≡ d s
superblock_others bytes d now sized mixed s ne = ⊎_elim (λ is. is) (λ is. is ∙ ap (λ (e : Image). e s) (put_one 0 bytes d sized) ∙ put_other 0 s bytes d ne) (mixed s)

-- ---- a block

module _ (g : Geometry) (block : ℕ) (bytes : List ℕ) (sized : length bytes ≡ 4096) (d : Image) where
  eight : length (sectors_of bytes) ≡ 8
  eight = length-pieces (length bytes / 512) bytes ∙ omega arith

  block_below : (s : ℕ) → s < 8 * block → overwritten (8 * block) bytes d s ≡ d s
  block_below s lt = put_all_below (sectors_of bytes) (8 * block) s d lt

  block_above : (s : ℕ) → 8 * (block + 1) ≤ s → overwritten (8 * block) bytes d s ≡ d s
  block_above s ge = put_all_above (sectors_of bytes) (8 * block) s d (omega (arith, eight))

  block_within : (i : ℕ) → i < 8 → overwritten (8 * block) bytes d (8 * block + i) ≡ take 512 (drop (512 * i) bytes)
  block_within i lt = put_all_within (sectors_of bytes) (8 * block) i d (omega (arith, eight)) ∙ pieces_at (length bytes / 512) i bytes (omega arith)

  pub block_others : (now : Image) → Mixes d (overwritten (8 * block) bytes d) now → 1 ≤ block → block < first_of_data g → (s : ℕ) → IsOutside g s → now s ≡ d s
  block_others now mixed from below s outside = ⊎_elim (λ is. is) (λ is. is ∙ ⊎_elim (λ near. block_below s (omega arith)) (λ far. block_above s (omega arith)) outside) (mixed s)

  pub block_laid : (now : Image) → now ≡ overwritten (8 * block) bytes d → IsTableBlock g block bytes → HasTablesBelow g block d → HasTablesBelow g (block + 1) now
  block_laid now is laid below = record { sectors = λ s from under. at s from under (cases_lt s (8 * block)) }
    where
      here : (s : ℕ) → now s ≡ overwritten (8 * block) bytes d s
      here s = ap (λ (e : Image). e s) is

      at : (s : ℕ) → 8 ≤ s → s < 8 * (block + 1) → (s < 8 * block) ⊎ (8 * block ≤ s) → IsTableSector g s (now s)
      at s from under (inl lt) = subst (IsTableSector g s) (sym (here s ∙ block_below s lt)) (below.sectors s from lt)
      at s from under (inr ge) =
          let same : 8 * block + (s - 8 * block) ≡ s = omega arith in
          let it : IsTableSector g (8 * block + (s - 8 * block)) (now (8 * block + (s - 8 * block))) =
          subst (IsTableSector g (8 * block + (s - 8 * block))) (sym (here (8 * block + (s - 8 * block)) ∙ block_within (s - 8 * block) (omega arith))) (laid.sectors (s - 8 * block) (omega arith)) in
          subst (λ (n : ℕ). IsTableSector g n (now n)) same it

-- the superblock's sector stays, whatever of the block a crash leaves
module _ (block : ℕ) (bytes : List ℕ) (from_one : 1 ≤ block) where
  blank_stays : (state : State) → Leaves IsBlank state → (image : Image) → IsPartlyWritten (8 * block) bytes state image → IsBlank image
  blank_stays state blank image from = ⊎_elim
      (λ is. is ∙ blank from.before from.left)
      (λ is. is ∙ put_all_below (sectors_of bytes) (8 * block) 0 from.before (omega arith) ∙ blank from.before from.left)
      (from.mixed 0)

  pub still_blank : (keeps : Bool) (first old new : Moments) → LeavesOnly keeps IsBlank first old → LeavesOnly keeps (IsPartlyWritten (8 * block) bytes old.state) old new → LeavesOnly keeps IsBlank first new
  still_blank keeps first old new so_far write = goes_on keeps IsBlank (IsPartlyWritten (8 * block) bytes old.state) first old new so_far write (blank_stays old.state so_far.after)

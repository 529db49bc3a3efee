-- What is folded is written home: at each moment an image is left as before.
use Rattle.std.proofs.Common.{◌≡◌, ℕ, ◌*◌, ◌<◌, ◌≤◌, ◌⊎◌, inl, inr, List, Bool, true, false, ap, sym, refl, ◌∙◌, subst, arith}
use Rattle.std.specs.Prelude.{nat_le, nat_lt}
use Rattle.std.specs.List.{AllByRecursion}
use Rattle.std.proofs.lemmas.Bool.{and_parts}
use Rattle.std.proofs.lemmas.Bool.Decides.{nat_tests}
use Rattle.ufs_disk.specs.Disk.{Cell, possible}
use Rattle.ufs_layout.specs.Areas.{IsGeometry, sector_count, first_of_data, first_of_inodes, first_of_journal, is_data_sector, journal_sectors}
use Rattle.ufs_layout.specs.Superblock.{geometry_of}
use Rattle.ufs_base.specs.Images.{Image}
use Rattle.ufs_image.specs.Images.{IsImageOf}
use Rattle.ufs_image.specs.Journal.{committed, epoch_in, sectors_of_epoch, transactions, well_spelled, committed_of}
use Rattle.ufs_image.specs.Fold.{folded}
use Rattle.ufs_image.specs.Proper.{IsProperClean}
use Rattle.ufs_image.specs.Volume.{volume_of}
use Rattle.ufs_layout.specs.declared.geometry.Geometry.{Geometry}
use Rattle.ufs_layout.specs.declared.superblock.Super.{Super}
use Rattle.ufs_layout.specs.declared.records.Committed.{Committed}
use Rattle.std.specs.Prelude.{map}
use Rattle.ufs_journal.specs.Found.{journal_sector}
use Rattle.ufs_image.specs.Folding.{Spells, FitsCommitted}
use Rattle.ufs_image.proofs.Lists.{IsIn}
use Rattle.ufs_image.proofs.Empty.{from_range}
use Rattle.ufs_image.proofs.Mixed.{else_folded, mixed}
use Rattle.ufs_image.proofs.Home.{sectors_same}
use Rattle.ufs_image.proofs.Opening.{has_geometry}
use Rattle.ufs_image.proofs.Records.{committed_fit}
use Rattle.ufs_image.proofs.Blocks.{block_same}
use Rattle.ufs_ledger.specs.Ledger.{IsMixOf, Stand, IsLeft}
use Rattle.ufs_ledger.proofs.Held.{unheld_sector}
use Rattle.ufs_ledger.proofs.Opened.{same_geometry}
use Rattle.ufs_ledger.proofs.Alike.{not_clean, taken_again, spelled_folds, no_bad}
use Rattle.ufs_ledger.proofs.Overkept.{no_bad_mixed}

-- ---- where nothing is folded

no_data : (g : Geometry) (sector : ℕ) → sector < 8 * first_of_data g → is_data_sector g sector ≡ false
no_data g sector low = by (is_data_sector g sector) refl
  where
    by : (b : Bool) → is_data_sector g sector ≡ b → is_data_sector g sector ≡ false
    by false e = e
    by true e = let t = (and_parts (nat_le (8 * first_of_data g) sector) (nat_lt sector (8 * g.blocks)) e).0 in let high : 8 * first_of_data g ≤ sector = grind (arith, nat_tests, t) in absurd (omega (arith, low, high))

pub zero_unfolded : (g : Geometry) (log : List Committed) (image : Image) → folded g log image 0 ≡ image 0
zero_unfolded g log image = else_folded g 0 (no_data g 0 (omega arith)) (λ k ranged same. omega (arith, same)) log image

pub journal_unfolded : (g : Geometry) (log : List Committed) (image : Image) (sector : ℕ) → IsIn sector (journal_sectors g) → folded g log image sector ≡ image sector
journal_unfolded g log image sector is =
    let at = from_range (8 * first_of_journal g) g.journal sector is in
    let from = at.0 in
    let under = at.1 in
    else_folded g sector (no_data g sector (omega (arith, under)))
    (λ k ranged same.
    let high : k ≤ g.inodes = let t = (and_parts (nat_le 1 k) (nat_le k g.inodes) ranged).1 in grind (arith, nat_tests, t) in
    let low : 1 ≤ k = let t = (and_parts (nat_le 1 k) (nat_le k g.inodes) ranged).0 in grind (arith, nat_tests, t) in
    omega (arith, same, high, low, from)) log image

pub journal_there : (g : Geometry) (log : List Committed) (image : Image) (place : ℕ) → place < g.journal → folded g log image (journal_sector g place) ≡ image (journal_sector g place)
journal_there g log image place under =
    else_folded g (journal_sector g place) (no_data g (journal_sector g place) (omega (arith, under)))
    (λ k ranged same.
    let high : k ≤ g.inodes = let t = (and_parts (nat_le 1 k) (nat_le k g.inodes) ranged).1 in grind (arith, nat_tests, t) in
    let low : 1 ≤ k = let t = (and_parts (nat_le 1 k) (nat_le k g.inodes) ranged).0 in grind (arith, nat_tests, t) in
    omega (arith, same, high, low)) log image

pub bitmap_there : (g : Geometry) (log : List Committed) (image : Image) (sector : ℕ) → sector < 8 * first_of_inodes g → folded g log image sector ≡ image sector
bitmap_there g log image sector under =
    else_folded g sector (no_data g sector (omega (arith, under)))
    (λ k ranged same.
    let low : 1 ≤ k = let t = (and_parts (nat_le 1 k) (nat_le k g.inodes) ranged).0 in grind (arith, nat_tests, t) in
    omega (arith, same, low, under)) log image

-- ---- a mix

module _ (sectors : ℕ) (superblock : Super) (blocks : ℕ → Cell) (s : Stand) (before mix : Image) (left : IsLeft sectors superblock blocks s before) (bytes : IsImageOf sectors before) (used : superblock.clean ≡ false)
    (each : (sector : ℕ) → (mix sector ≡ before sector) ⊎ (mix sector ≡ folded (geometry_of superblock) s.log before sector)) where
  pub geometry : IsGeometry (geometry_of superblock) × (sector_count (geometry_of superblock) ≤ sectors)
  geometry =
      let is = has_geometry sectors before left.as_volume left.taken in
      let same = same_geometry sectors superblock blocks s before left in
      (subst IsGeometry same is.0, subst (λ g. sector_count g ≤ sectors) same is.1)

  good : AllByRecursion FitsCommitted (committed (geometry_of superblock) superblock.epoch before)
  good = committed_fit (geometry_of superblock) sectors superblock.epoch before geometry.0 geometry.1 bytes

  fit : AllByRecursion FitsCommitted s.log
  fit = subst (AllByRecursion FitsCommitted) left.logged good

  unmoved : (sector : ℕ) → folded (geometry_of superblock) s.log before sector ≡ before sector → mix sector ≡ before sector
  unmoved sector still = by (each sector)
    where
      by : (mix sector ≡ before sector) ⊎ (mix sector ≡ folded (geometry_of superblock) s.log before sector) → mix sector ≡ before sector
      by (inl same) = same
      by (inr done) = done ∙ still

  reads_same : sectors_of_epoch (geometry_of superblock) superblock.epoch mix ≡ sectors_of_epoch (geometry_of superblock) superblock.epoch before
  reads_same = sectors_same (geometry_of superblock) superblock.epoch before mix (λ sector is. unmoved sector (journal_unfolded (geometry_of superblock) s.log before sector is))

  log_same : committed (geometry_of superblock) superblock.epoch mix ≡ s.log
  log_same = ap (λ read. map committed_of (transactions (well_spelled read))) reads_same ∙ left.logged

  -- it folds to the same
  pub same_fold : folded (geometry_of superblock) s.log mix ≡ folded (geometry_of superblock) s.log before
  same_fold = λ i sector. mixed (geometry_of superblock) sectors before mix s.log geometry.0 geometry.1 bytes fit sector (each sector) i

  pub left_homing : IsLeft sectors superblock blocks s mix
  left_homing = record {
    as_volume = volume_of superblock mix;
    taken = taken_again sectors superblock blocks s before left mix (sym (unmoved 0 (zero_unfolded (geometry_of superblock) s.log before)))
        (no_bad_mixed (geometry_of superblock) sectors superblock before mix geometry.0 geometry.1 bytes good
        (λ sector. subst (λ log. (mix sector ≡ before sector) ⊎ (mix sector ≡ folded (geometry_of superblock) log before sector)) (sym left.logged) (each sector)) reads_same (no_bad sectors superblock blocks s before left));
    superblock_is = refl;
    logged = log_same;
    latest = λ place under. subst (λ b. epoch_in b ≤ superblock.epoch) (sym (unmoved (journal_sector (geometry_of superblock) place) (journal_there (geometry_of superblock) s.log before place under))) (left.latest place under);
    spells = subst (λ i. Spells (geometry_of superblock) true s.dirs i s.catalog) (sym (ap (λ log. folded (geometry_of superblock) log mix) log_same ∙ same_fold)) (spelled_folds sectors superblock blocks s before left);
    covers = left.covers;
    sound = left.sound;
    contents = λ block data' free. subst (IsMixOf (possible (blocks block)))
        (block_same before mix block (λ sector of. sym (unmoved sector (unheld_sector (geometry_of superblock) block data'.from sector of s.log before free)))) (left.contents block data' free);
    if_clean = not_clean superblock used (IsProperClean (volume_of superblock mix) mix);
  }

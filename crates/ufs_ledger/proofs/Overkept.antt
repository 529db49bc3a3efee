-- Writing home spoils no record of the journal.
use Rattle.std.proofs.Common.{◌≡◌, ℕ, ◌≤◌, ◌⊎◌, inl, inr, true, false, None, unwrap_or, ap, sym, ◌∙◌, subst, arith}
use Rattle.std.specs.Prelude.{nat_le}
use Rattle.std.specs.List.{AllByRecursion}
use Rattle.std.proofs.lemmas.Bool.{and_parts}
use Rattle.std.proofs.lemmas.Bool.Decides.{nat_tests}
use Rattle.ufs_layout.specs.Areas.{IsGeometry, sector_of_inode, is_inode_number, sector_count}
use Rattle.ufs_layout.specs.InodeForm.{InodeForm, inode_of, free_inode}
use Rattle.ufs_base.specs.Images.{Image}
use Rattle.ufs_image.specs.Images.{IsImageOf, form_at}
use Rattle.ufs_image.specs.Journal.{sectors_of_epoch, well_spelled, transactions, committed}
use Rattle.ufs_image.specs.BadSectors.{first_bad, bad_sector}
use Rattle.ufs_image.specs.Fold.{folded}
use Rattle.ufs_layout.specs.declared.geometry.Geometry.{Geometry}
use Rattle.ufs_layout.specs.declared.superblock.Super.{Super}
use Rattle.ufs_image.specs.Catalog.{catalog_at}
use Rattle.ufs_image.specs.Folding.{FitsCommitted, folded_in}
use Rattle.ufs_image.proofs.Fits.{shows}
use Rattle.ufs_image.proofs.Steps.{folded_step}
use Rattle.ufs_image.proofs.Home.{AllAlike, none_bad}
use Rattle.ufs_image.proofs.Mixed.{AreLate, numbers}

module _ (g : Geometry) where
  -- No sector is off that wasn't, where some sectors are home.
  pub no_bad_mixed : (sectors : ℕ) (superblock : Super) (image mix : Image) → IsGeometry g → sector_count g ≤ sectors → IsImageOf sectors image → AllByRecursion FitsCommitted (committed g superblock.epoch image)
      → ((s : ℕ) → (mix s ≡ image s) ⊎ (mix s ≡ folded g (committed g superblock.epoch image) image s)) → sectors_of_epoch g superblock.epoch mix ≡ sectors_of_epoch g superblock.epoch image
      → bad_sector g superblock image ≡ None → bad_sector g superblock mix ≡ None
  no_bad_mixed sectors superblock image mix is room bytes good each read none =
      ap (first_bad g superblock.next mix) read ∙ none_bad g superblock.next image mix (sectors_of_epoch g superblock.epoch image) (λ k ranged. late k ranged (each (sector_of_inode g k))) none
    where
      late : (k : ℕ) → is_inode_number g k ≡ true → (mix (sector_of_inode g k) ≡ image (sector_of_inode g k)) ⊎ (mix (sector_of_inode g k) ≡ folded g (committed g superblock.epoch image) image (sector_of_inode g k))
          → AllAlike g (transactions (well_spelled (sectors_of_epoch g superblock.epoch image))) image mix k
      late k ranged (inl same) = inl same
      late k ranged (inr done) =
          let low : 1 ≤ k = let t = (and_parts (nat_le 1 k) (nat_le k g.inodes) ranged).0 in grind (arith, nat_tests, t) in
          let high : k ≤ g.inodes = let t = (and_parts (nat_le 1 k) (nat_le k g.inodes) ranged).1 in grind (arith, nat_tests, t) in
          let after = folded_step g false (λ _. false) (committed g superblock.epoch image) image (catalog_at g image) (shows g sectors image is room bytes) good in
          let form : form_at g mix k ≡ (folded_in g (committed g superblock.epoch image) (catalog_at g image)).forms k = ap (λ bytes. unwrap_or (inode_of bytes) (free_inode 0)) done ∙ after.forms k (record { from_one = low; within = high }) in
          inr (λ again. subst (AreLate g k again (committed g superblock.epoch image)) (sym (ap (λ (f : InodeForm). f.number) form)) (numbers g k again (committed g superblock.epoch image) (catalog_at g image)))

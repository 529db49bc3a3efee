-- An image is marked in use.
use Rattle.std.proofs.Common.{◌≡◌, ◌∙◌, ◌⊎◌, ◌<◌, ◌≤◌, ℕ, List, Bool, inl, inr, Some, false, length, ap, refl, sym, subst, arith}
use Rattle.std.specs.Prelude.{◌==◌, if◌then◌else◌, IsTrue}
use Rattle.std.proofs.lemmas.Bool.Decides.{nat_tests}
use Rattle.ufs_base.specs.Images.{Image}
use Rattle.ufs_disk.specs.Disk.{IsImage, IsPartlyWritten, IsSettled, Leaves, Mixes, overwritten, put}
use Rattle.ufs_disk.specs.Moments.{LeavesOnly, Moments, reads}
use Rattle.ufs_disk.proofs.Images.{mixes_one, put_one, seen_is_image}
use Rattle.ufs_disk.proofs.Runs.{joined, weaker}
use Rattle.ufs_layout.specs.Areas.{first_of_data}
use Rattle.ufs_layout.specs.Superblock.{geometry_of, super_of}
use Rattle.ufs_layout.specs.declared.superblock.Super.{Super}
use Rattle.ufs_image.specs.Images.{IsImageOf, block_at}
use Rattle.ufs_image.specs.Journal.{epoch_in}
use Rattle.ufs_image.specs.Volume.{Volume}
use Rattle.ufs_image.proofs.Blocks.{block_same}
use Rattle.ufs_image.proofs.Journals.{taken}
use Rattle.ufs_journal.specs.Found.{IsFreeFrom, journal_sector}
use Rattle.ufs_journal.specs.Kept.{HasEarlier}
use Rattle.ufs_ledger.specs.Changes.{opening_ledger}
use Rattle.ufs_ledger.specs.Laws.{BeginsAnew, BeginsForGood, BeginsQuietly, HasOpeningLedger, MayBegin}
use Rattle.ufs_ledger.specs.Ledger.{IsLedgerOf, IsLeftBy, Ledger}
use Rattle.ufs_ledger.proofs.States.{on_one}
use Rattle.ufs_store.specs.Mounting.{IsMountable, in_use, marking}

module _ (sectors : ℕ) (keeps : Bool) (m0 : Moments) (before : Super) (bytes : List ℕ) (is : IsMountable sectors m0.state before) (whole : Leaves (IsImageOf sectors) m0.state)
    (spelled : super_of 1 bytes ≡ Some (in_use before)) (size : length bytes ≡ 512)
    (opening : HasOpeningLedger (geometry_of before)) (quietly : BeginsQuietly sectors) (anew : BeginsAnew sectors) (good : BeginsForGood sectors) where
  abbrev home : Image
  home = reads m0

  abbrev l : Ledger
  l = opening_ledger before home

  same_geometry : is.as_volume.geometry ≡ geometry_of before
  same_geometry =
      let tells = taken sectors home is.as_volume is.taken in
      ap (λ (v : Volume). v.geometry) tells.same ∙ ap geometry_of (sym (ap (λ (v : Volume). v.superblock) tells.same) ∙ is.superblock_is)

  free : IsFreeFrom (geometry_of before) before.epoch 0 home
  free place low under = let less = is.earlier place under in grind (arith, nat_tests, less)

  pub opens : IsLedgerOf sectors m0.state l
  opens = subst (λ (h : Super). IsLedgerOf sectors m0.state (opening_ledger h home)) is.superblock_is
      (opening sectors m0.state is.as_volume same_geometry whole is.settled is.taken is.undamaged (subst (λ (h : Super). HasEarlier (geometry_of before) h.epoch home) (sym is.superblock_is) is.earlier)
      (λ clean. is.if_clean (subst (λ (h : Super). IsTrue h.clean) is.superblock_is clean)))

  begins : MayBegin sectors l home (in_use before) bytes
  begins = record {
    whole = whole home (seen_is_image m0.state);
    left = on_one sectors l home refl (opens.images home (seen_is_image m0.state));
    folds = refl;
    reads = λ block _ _. refl;
    later = omega arith;
    free = free;
    in_use = refl;
    spelled = spelled;
    geometry = refl;
  }

  one_or_other : (image : Image) → IsPartlyWritten 0 bytes m0.state image → (image ≡ home) ⊎ (image ≡ put 0 bytes home)
  one_or_other image part =
      let from : part.before ≡ home = is.settled part.before part.left in
      let one = mixes_one 0 bytes part.before image (subst (λ i. Mixes part.before i image) (put_one 0 bytes part.before size) part.mixed) in
      subst (λ b. (image ≡ b) ⊎ (image ≡ put 0 bytes b)) from one

  marks : (image : Image) → (image ≡ home) ⊎ (image ≡ put 0 bytes home) → IsLeftBy sectors (marking before home) image
  marks image (inl same) = subst (IsLeftBy sectors (marking before home)) (sym same) (quietly l home (in_use before) bytes begins)
  marks image (inr same) = subst (IsLeftBy sectors (marking before home)) (sym same) (anew l home (in_use before) bytes begins)

  module _ (m1 : Moments) (run1 : LeavesOnly keeps (IsPartlyWritten 0 bytes m0.state) m0 m1) where
    pub crash1 : LeavesOnly keeps (IsLeftBy sectors (marking before home)) m0 m1
    crash1 = weaker keeps (IsPartlyWritten 0 bytes m0.state) (IsLeftBy sectors (marking before home)) (λ image part. marks image (one_or_other image part)) m0 m1 run1

    module _ (m2 : Moments) (run2 : LeavesOnly keeps (IsImage m1.state) m1 m2) where
      pub crash2 : LeavesOnly keeps (IsLeftBy sectors (marking before home)) m0 m2
      crash2 = joined keeps (IsLeftBy sectors (marking before home)) m0 m1 m2 crash1
          (weaker keeps (IsImage m1.state) (IsLeftBy sectors (marking before home)) (λ image left. crash1.after image left) m1 m2 run2)

      module _ (put1 : reads m1 ≡ overwritten 0 bytes home) (same2 : reads m2 ≡ reads m1) (still2 : IsSettled m2.state) where
        at_m2 : (image : Image) → IsImage m2.state image → image ≡ put 0 bytes home
        at_m2 image left = still2 image left ∙ same2 ∙ put1 ∙ put_one 0 bytes home size

        pub ledger2 : IsLedgerOf sectors m2.state (opening_ledger (in_use before) home)
        ledger2 = record {
          images = λ image left. subst (IsLeftBy sectors (opening_ledger (in_use before) home)) (sym (at_m2 image left)) (good l home (in_use before) bytes begins);
          reads = λ block data' _. ap (λ i. block_at i block) (at_m2 (reads m2) (seen_is_image m2.state)) ∙ behind block data'.from;
        }
          where
            behind : (block : ℕ) → first_of_data (geometry_of before) ≤ block → block_at (put 0 bytes home) block ≡ block_at home block
            behind block from = block_same (put 0 bytes home) home block (λ sector of. ap (λ b. if b then bytes else home sector) (let at = of.same in let off : (sector == 0) ≡ false = (let past : 0 < sector = omega (arith, at, from) in grind (arith, nat_tests, past)) in off))

        pub earlier2 : Leaves (HasEarlier (geometry_of before) before.epoch) m2.state
        earlier2 image left place under =
            let past : 0 < journal_sector (geometry_of before) place = omega arith in
            let off : (journal_sector (geometry_of before) place == 0) ≡ false = grind (arith, nat_tests, past) in
            let same : image (journal_sector (geometry_of before) place) ≡ home (journal_sector (geometry_of before) place) =
            ap (λ (i : Image). i (journal_sector (geometry_of before) place)) (at_m2 image left) ∙ ap (λ b. if b then bytes else home (journal_sector (geometry_of before) place)) off in
            subst (λ b. epoch_in b < before.epoch) (sym same) (is.earlier place under)

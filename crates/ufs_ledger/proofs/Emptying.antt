-- A checkpoint: a barrier, all written home, a barrier, the next superblock and a barrier.
use Rattle.std.proofs.Common.{◌≡◌, ℕ, ◌<◌, ◌≤◌, ◌⊎◌, inl, inr, List, [], Bool, true, false, Some, length, ap, sym, refl, ◌∙◌, subst, arith}
use Rattle.std.specs.Prelude.{◌==◌, if◌then◌else◌}
use Rattle.std.proofs.lemmas.Bool.Decides.{nat_tests}
use Rattle.ufs_disk.specs.Disk.{Cell, IsImage, IsSettled, Leaves, IsPartlyWritten, Mixes, overwritten, put}
use Rattle.ufs_disk.specs.Moments.{Moments, LeavesOnly, reads}
use Rattle.ufs_disk.proofs.Images.{seen_is_image, mixes_one, put_one}
use Rattle.ufs_disk.proofs.Runs.{weaker, joined}
use Rattle.ufs_layout.specs.Superblock.{geometry_of, super_of}
use Rattle.ufs_base.specs.Images.{Image}
use Rattle.ufs_image.specs.Images.{IsImageOf, block_at}
use Rattle.ufs_image.specs.Journal.{epoch_in}
use Rattle.ufs_image.specs.Fold.{folded}
use Rattle.ufs_layout.specs.declared.geometry.Geometry.{Geometry}
use Rattle.ufs_layout.specs.declared.superblock.Super.{Super}
use Rattle.ufs_journal.specs.Found.{journal_sector, IsFreeFrom}
use Rattle.ufs_journal.specs.Frames.{AgreeInJournal}
use Rattle.ufs_journal.specs.Kept.{IsReady}
use Rattle.ufs_journal.specs.declared.journal.Journal.{Journal}
use Rattle.ufs_image.specs.Agree.{IsOfBlock}
use Rattle.ufs_image.proofs.Blocks.{block_same}
use Rattle.ufs_overlay.specs.Over.{IsHomeWritten}
use Rattle.ufs_ledger.specs.Ledger.{IsDataBlock, is_held, IsLeft, Ledger, IsLeftBy, IsLedgerOf}
use Rattle.ufs_ledger.specs.Changes.{beginning, emptied, home_of}
use Rattle.ufs_ledger.specs.Committing.{IsLedgerBy}
use Rattle.ufs_ledger.specs.Data.{KeepsData}
use Rattle.ufs_ledger.proofs.Data.{data_quiet, data_more, data_home, data_superblock_put, data_stays}
use Rattle.ufs_ledger.proofs.Held.{unheld_sector, unheld_block}
use Rattle.ufs_ledger.proofs.Homing.{same_fold, left_homing, journal_there}
use Rattle.ufs_ledger.proofs.States.{barrier_quiet, on_one, homes, begins}
use Rattle.ufs_ledger.proofs.Frames.{ready_from}

abbrev seen_in : Cell → List ℕ
seen_in c = c.seen

-- ---- what is known of each step

-- behind the first barrier
pub record IsBarred (sectors : ℕ) (keeps : Bool) (j : Journal) (l : Ledger) (new : Super) (bytes : List ℕ) (m0 m1 : Moments) : Type 0 where
  pub by : IsLedgerBy j sectors m0.state l
  pub whole : Leaves (IsImageOf sectors) m0.state
  pub spelled : super_of 1 bytes ≡ Some new
  pub kept : geometry_of new ≡ j.geometry
  pub later : j.epoch < new.epoch
  pub used : new.clean ≡ false
  pub run : LeavesOnly keeps (IsImage m0.state) m0 m1
  pub same : reads m1 ≡ reads m0

-- while all is written home
pub record IsHoming (sectors : ℕ) (keeps : Bool) (j : Journal) (l : Ledger) (m1 m2 : Moments) : Type 0 where
  pub still : IsSettled m1.state
  pub whole : Leaves (IsImageOf sectors) m1.state
  pub run : LeavesOnly keeps (IsHomeWritten j.geometry l.now.log m1.state) m1 m2

-- behind the second barrier
pub record IsHome (keeps : Bool) (j : Journal) (l : Ledger) (m1 m2 m3 : Moments) : Type 0 where
  pub done : reads m2 ≡ folded j.geometry l.now.log (reads m1)
  pub run : LeavesOnly keeps (IsImage m2.state) m2 m3
  pub same : reads m3 ≡ reads m2

-- while the superblock is written
pub record IsBeginning (sectors : ℕ) (keeps : Bool) (bytes : List ℕ) (m3 m4 : Moments) : Type 0 where
  pub still : IsSettled m3.state
  pub whole : IsImageOf sectors (reads m3)
  pub long : length bytes ≡ 512
  pub run : LeavesOnly keeps (IsPartlyWritten 0 bytes m3.state) m3 m4

-- behind the last barrier
pub record IsBegun (keeps : Bool) (bytes : List ℕ) (m3 m4 m5 : Moments) : Type 0 where
  pub done : reads m4 ≡ overwritten 0 bytes (reads m3)
  pub run : LeavesOnly keeps (IsImage m4.state) m4 m5
  pub same : reads m5 ≡ reads m4

-- ---- what a checkpoint has come to

-- at any of these moments
pub record IsStopped (sectors : ℕ) (keeps : Bool) (j : Journal) (l : Ledger) (new : Super) (m0 m : Moments) : Type 0 where
  pub crash : LeavesOnly keeps (λ image. IsLeftBy sectors l image ⊎ IsLeftBy sectors (beginning new (block_at (home_of l (reads m0))) l) image) m0 m
  pub kept : LeavesOnly keeps (KeepsData j.geometry l.now.log m0.state) m0 m
  pub ledger : (n : ℕ) → n ≡ sectors → IsLedgerOf n m.state l ⊎ IsLedgerOf n m.state (beginning new (block_at (home_of l (reads m0))) l)

-- at its end
pub record IsEmptied (sectors : ℕ) (keeps : Bool) (j : Journal) (l : Ledger) (new : Super) (m0 m : Moments) : Type 0 where
  pub stopped : IsStopped sectors keeps j l new m0 m
  pub ledger : IsSettled m.state → IsLedgerOf sectors m.state (emptied new (block_at (home_of l (reads m0))) l)
  pub ready : IsSettled m.state → IsReady j.geometry j.epoch j.used j.number m.state

module _ {sectors : ℕ} {keeps : Bool} {j : Journal} {l : Ledger} {new : Super} {bytes : List ℕ} {m0 m1 : Moments} (b : IsBarred sectors keeps j l new bytes m0 m1) where
  same_geometry : geometry_of new ≡ geometry_of l.superblock
  same_geometry = b.kept ∙ sym b.by.geometry

  -- everything at home
  abbrev home : Image
  home = folded (geometry_of l.superblock) l.now.log (reads m0)

  seen0 : IsLeft sectors l.superblock l.blocks l.now (reads m0)
  seen0 = on_one sectors l (reads m0) b.by.none (b.by.is.images (reads m0) (seen_is_image m0.state))

  whole0 : IsImageOf sectors (reads m0)
  whole0 = b.whole (reads m0) (seen_is_image m0.state)

  left_home : IsLeft sectors l.superblock l.blocks l.now home
  left_home = left_homing sectors l.superblock l.blocks l.now (reads m0) home seen0 whole0 b.by.in_use (λ sector. inr refl)

  at_home : folded (geometry_of l.superblock) l.now.log home ≡ home
  at_home = same_fold sectors l.superblock l.blocks l.now (reads m0) home seen0 whole0 b.by.in_use (λ sector. inr refl)

  home_reads : (block : ℕ) → IsDataBlock (geometry_of l.superblock) block → is_held l.now.log block ≡ false → block_at home block ≡ (l.blocks block).seen
  home_reads block data' free = unheld_block (geometry_of l.superblock) block data'.from l.now.log (reads m0) free ∙ b.by.is.reads block data' free

  home_journal : AgreeInJournal (geometry_of l.superblock) home (reads m0)
  home_journal place under = journal_there (geometry_of l.superblock) l.now.log (reads m0) place under

  free_home : IsFreeFrom (geometry_of l.superblock) new.epoch 0 home
  free_home place low under =
      let under' : place < j.geometry.journal = subst (λ (g : Geometry). place < g.journal) b.by.geometry under in
      let most = subst (λ (g : Geometry). epoch_in (reads m0 (journal_sector g place)) ≤ j.epoch) (sym b.by.geometry) (b.by.ready.latest (reads m0) (seen_is_image m0.state) place under') in
      let is : epoch_in (reads m0 (journal_sector (geometry_of l.superblock) place)) < new.epoch = (let later = b.later in omega (arith, most, later)) in
      ap (λ b. epoch_in b == new.epoch) (home_journal place under) ∙ grind (arith, nat_tests, is)

  module _ (sized : IsImageOf sectors home) where
    begun : IsLeftBy sectors (beginning new (block_at home) l) home × IsLeftBy sectors (beginning new (block_at home) l) (put 0 bytes home) × IsLeftBy sectors (emptied new (block_at home) l) (put 0 bytes home)
    begun = begins sectors l home new bytes sized left_home at_home home_reads (let same = b.by.epoch in let later = b.later in omega (arith, same, later)) free_home b.used b.spelled same_geometry

  -- what a crash may leave at each moment
  abbrev AtEach : Image → Type 0
  AtEach image = IsLeftBy sectors l image ⊎ IsLeftBy sectors (beginning new (block_at home) l) image

  crash1 : LeavesOnly keeps AtEach m0 m1
  crash1 = weaker keeps (IsImage m0.state) AtEach (λ image left. inl (b.by.is.images image left)) m0 m1 b.run

  ledger1 : IsLedgerOf sectors m1.state l
  ledger1 = barrier_quiet sectors m0.state m1.state l b.by.is b.run.after b.same

  kept1 : LeavesOnly keeps (KeepsData j.geometry l.now.log m0.state) m0 m1
  kept1 = data_quiet j.geometry l.now.log keeps m0 m1 b.run

  pub stopped1 : IsStopped sectors keeps j l new m0 m1
  stopped1 = record { crash = crash1; kept = kept1; ledger = λ n e. inl (subst (λ n. IsLedgerOf n m1.state l) (sym e) ledger1) }

  module _ {m2 : Moments} (h : IsHoming sectors keeps j l m1 m2) where
    run2 : LeavesOnly keeps (IsHomeWritten (geometry_of l.superblock) l.now.log m1.state) m1 m2
    run2 = subst (λ (g : Geometry). LeavesOnly keeps (IsHomeWritten g l.now.log m1.state) m1 m2) (sym b.by.geometry) h.run

    crash2 : LeavesOnly keeps AtEach m0 m2
    crash2 = joined keeps AtEach m0 m1 m2 crash1 (weaker keeps (IsHomeWritten (geometry_of l.superblock) l.now.log m1.state) AtEach (λ image part. inl (homes sectors m1.state l image h.whole b.by.none b.by.in_use ledger1 part)) m1 m2 run2)

    unheld_stays : (image : Image) → IsHomeWritten (geometry_of l.superblock) l.now.log m1.state image → (block : ℕ) → IsDataBlock (geometry_of l.superblock) block → is_held l.now.log block ≡ false → block_at image block ≡ block_at (reads m1) block
    unheld_stays image part block data' free = block_same image (reads m1) block (λ s of. at s of (part.mixed s))
      where
        was : part.before ≡ reads m1
        was = h.still part.before part.left

        at : (s : ℕ) → IsOfBlock block s → (image s ≡ part.before s) ⊎ (image s ≡ folded (geometry_of l.superblock) l.now.log part.before s) → image s ≡ reads m1 s
        at s of (inl is) = is ∙ ap (λ (i : Image). i s) was
        at s of (inr is) = is ∙ unheld_sector (geometry_of l.superblock) block data'.from s of l.now.log part.before free ∙ ap (λ (i : Image). i s) was

    ledger2 : IsLedgerOf sectors m2.state l
    ledger2 = record {
      images = λ image left. homes sectors m1.state l image h.whole b.by.none b.by.in_use ledger1 (run2.after image left);
      reads = λ block data' free. unheld_stays (reads m2) (run2.after (reads m2) (seen_is_image m2.state)) block data' free ∙ ledger1.reads block data' free;
    }

    kept2 : LeavesOnly keeps (KeepsData j.geometry l.now.log m0.state) m0 m2
    kept2 = data_more j.geometry l.now.log keeps m0 m1 m2 (IsHomeWritten j.geometry l.now.log m1.state) kept1 h.run (data_home j.geometry l.now.log m1.state)

    pub stopped2 : IsStopped sectors keeps j l new m0 m2
    stopped2 = record { crash = crash2; kept = kept2; ledger = λ n e. inl (subst (λ n. IsLedgerOf n m2.state l) (sym e) ledger2) }

    module _ {m3 : Moments} (d : IsHome keeps j l m1 m2 m3) where
      at_m3 : reads m3 ≡ home
      at_m3 = d.same ∙ d.done ∙ ap (folded j.geometry l.now.log) b.same ∙ ap (λ (g : Geometry). folded g l.now.log (reads m0)) (sym b.by.geometry)

      crash3 : LeavesOnly keeps AtEach m0 m3
      crash3 = joined keeps AtEach m0 m2 m3 crash2 (weaker keeps (IsImage m2.state) AtEach (λ image left. crash2.after image left) m2 m3 d.run)

      ledger3 : IsLedgerOf sectors m3.state l
      ledger3 = barrier_quiet sectors m2.state m3.state l ledger2 d.run.after d.same

      kept3 : LeavesOnly keeps (KeepsData j.geometry l.now.log m0.state) m0 m3
      kept3 = data_more j.geometry l.now.log keeps m0 m2 m3 (IsImage m2.state) kept2 d.run (data_stays j.geometry l.now.log m2.state)

      pub stopped3 : IsStopped sectors keeps j l new m0 m3
      stopped3 = record { crash = crash3; kept = kept3; ledger = λ n e. inl (subst (λ n. IsLedgerOf n m3.state l) (sym e) ledger3) }

      module _ {m4 : Moments} (p : IsBeginning sectors keeps bytes m3 m4) where
        sized : IsImageOf sectors home
        sized = subst (IsImageOf sectors) at_m3 p.whole

        one_or_other : (image : Image) → IsPartlyWritten 0 bytes m3.state image → (image ≡ home) ⊎ (image ≡ put 0 bytes home)
        one_or_other image part =
            let before : part.before ≡ home = p.still part.before part.left ∙ at_m3 in
            let one = mixes_one 0 bytes part.before image (subst (λ i. Mixes part.before i image) (put_one 0 bytes part.before p.long) part.mixed) in
            subst (λ b. (image ≡ b) ⊎ (image ≡ put 0 bytes b)) before one

        superblock_put : (image : Image) → (image ≡ home) ⊎ (image ≡ put 0 bytes home) → IsLeftBy sectors (beginning new (block_at home) l) image
        superblock_put image (inl is) = subst (IsLeftBy sectors (beginning new (block_at home) l)) (sym is) (begun sized).0
        superblock_put image (inr is) = subst (IsLeftBy sectors (beginning new (block_at home) l)) (sym is) (begun sized).1

        behind : (block : ℕ) → IsDataBlock (geometry_of l.superblock) block → block_at (put 0 bytes home) block ≡ block_at home block
        behind block data' = block_same (put 0 bytes home) home block (λ sector of. ap (λ b. if b then bytes else home sector) (let at = of.same in let from = data'.from in let off : (sector == 0) ≡ false = (let past : 0 < sector = omega (arith, at, from) in grind (arith, nat_tests, past)) in off))

        cell : (block : ℕ) → IsDataBlock (geometry_of l.superblock) block → (b : Bool) → is_held l.now.log block ≡ b → block_at home block ≡ seen_in (if b then record { older = []; seen = block_at home block } else record { older = []; seen = (l.blocks block).seen })
        cell block data' true e = refl
        cell block data' false e = home_reads block data' e

        reads_on : (image : Image) → (image ≡ home) ⊎ (image ≡ put 0 bytes home) → (block : ℕ) → IsDataBlock (geometry_of l.superblock) block → block_at image block ≡ block_at home block
        reads_on image (inl is) block data' = ap (λ i. block_at i block) is
        reads_on image (inr is) block data' = ap (λ i. block_at i block) is ∙ behind block data'

        -- the superblock may be there or not
        ledger4 : IsLedgerOf sectors m4.state (beginning new (block_at home) l)
        ledger4 = record {
          images = λ image left. superblock_put image (one_or_other image (p.run.after image left));
          reads = λ block data' free. reads_on (reads m4) (one_or_other (reads m4) (p.run.after (reads m4) (seen_is_image m4.state))) block data' ∙ cell block data' (is_held l.now.log block) refl;
        }

        crash4 : LeavesOnly keeps AtEach m0 m4
        crash4 = joined keeps AtEach m0 m3 m4 crash3 (weaker keeps (IsPartlyWritten 0 bytes m3.state) AtEach (λ image part. inr (superblock_put image (one_or_other image part))) m3 m4 p.run)

        kept4 : LeavesOnly keeps (KeepsData j.geometry l.now.log m0.state) m0 m4
        kept4 = data_more j.geometry l.now.log keeps m0 m3 m4 (IsPartlyWritten 0 bytes m3.state) kept3 p.run (λ image part. data_superblock_put j.geometry l.now.log bytes m3.state image p.long part)

        pub stopped4 : IsStopped sectors keeps j l new m0 m4
        stopped4 = record { crash = crash4; kept = kept4; ledger = λ n e. inr (subst (λ n. IsLedgerOf n m4.state (beginning new (block_at home) l)) (sym e) ledger4) }

        module _ {m5 : Moments} (q : IsBegun keeps bytes m3 m4 m5) where
          crash5 : LeavesOnly keeps AtEach m0 m5
          crash5 = joined keeps AtEach m0 m4 m5 crash4 (weaker keeps (IsImage m4.state) AtEach (λ image left. crash4.after image left) m4 m5 q.run)

          at_m5 : reads m5 ≡ put 0 bytes home
          at_m5 = q.same ∙ q.done ∙ put_one 0 bytes (reads m3) p.long ∙ ap (put 0 bytes) at_m3

          ledger5_tried : IsLedgerOf sectors m5.state (beginning new (block_at home) l)
          ledger5_tried = barrier_quiet sectors m4.state m5.state (beginning new (block_at home) l) ledger4 q.run.after q.same

          ledger5 : IsSettled m5.state → IsLedgerOf sectors m5.state (emptied new (block_at home) l)
          ledger5 still5 = record {
            images = λ image left. subst (IsLeftBy sectors (emptied new (block_at home) l)) (sym (still5 image left ∙ at_m5)) (begun sized).2;
            reads = λ block data' _.
                let is : IsDataBlock (geometry_of l.superblock) block = subst (λ g. IsDataBlock g block) same_geometry data' in
                ap (λ i. block_at i block) at_m5 ∙ behind block is ∙ cell block is (is_held l.now.log block) refl;
          }

          ready5 : IsSettled m5.state → IsReady j.geometry j.epoch j.used j.number m5.state
          ready5 still5 = ready_from j.geometry j.epoch j.used j.number m0.state m5.state
              (λ image left. record {
                before = reads m0;
                left = seen_is_image m0.state;
                same = λ place under.
                    let under' : place < (geometry_of l.superblock).journal = subst (λ (g : Geometry). place < g.journal) (sym b.by.geometry) under in
                    ap (λ (i : Image). i (journal_sector j.geometry place)) (still5 image left ∙ at_m5)
                    ∙ ap (λ b. if b then bytes else home (journal_sector j.geometry place)) (let off : (journal_sector j.geometry place == 0) ≡ false = (let past : 0 < journal_sector j.geometry place = omega arith in grind (arith, nat_tests, past)) in off)
                    ∙ subst (λ (g : Geometry). home (journal_sector g place) ≡ reads m0 (journal_sector g place)) b.by.geometry (home_journal place under');
              }) b.by.ready

          kept5 : LeavesOnly keeps (KeepsData j.geometry l.now.log m0.state) m0 m5
          kept5 = data_more j.geometry l.now.log keeps m0 m4 m5 (IsImage m4.state) kept4 q.run (data_stays j.geometry l.now.log m4.state)

          pub stopped5 : IsStopped sectors keeps j l new m0 m5
          stopped5 = record { crash = crash5; kept = kept5; ledger = λ n e. inr (subst (λ n. IsLedgerOf n m5.state (beginning new (block_at home) l)) (sym e) ledger5_tried) }

          pub emptied5 : IsEmptied sectors keeps j l new m0 m5
          emptied5 = record { stopped = stopped5; ledger = ledger5; ready = ready5 }

-- One commit: a barrier, the records, a barrier, the commit and a barrier.
use Rattle.std.proofs.Common.{◌≡◌, ℕ, ◌⊎◌, inl, inr, List, Bool, sym, ◌∙◌, subst}
use Rattle.ufs_disk.specs.Disk.{IsImage, IsSettled}
use Rattle.ufs_disk.specs.Moments.{Moments, LeavesOnly, reads}
use Rattle.ufs_disk.proofs.Images.{seen_is_image}
use Rattle.ufs_disk.proofs.Runs.{weaker, joined}
use Rattle.ufs_layout.specs.Superblock.{geometry_of}
use Rattle.ufs_base.specs.Images.{Image}
use Rattle.ufs_layout.specs.declared.geometry.Geometry.{Geometry}
use Rattle.ufs_layout.specs.declared.records.LogRecord.{LogRecord}
use Rattle.ufs_layout.specs.declared.records.Committed.{Committed}
use Rattle.ufs_journal.specs.Kept.{IsReady, IsUnused, IsOpen, CanApply}
use Rattle.ufs_journal.specs.declared.journal.Journal.{Journal}
use Rattle.ufs_journal.specs.Written.{CommitsOne, IsAppended, IsMaybeCommitted}
use Rattle.ufs_image.specs.CatalogLaws.{FoldsCatalogs, FoldsOneMore}
use Rattle.ufs_ledger.specs.Ledger.{Ledger, IsLeftBy, IsLedgerOf}
use Rattle.ufs_ledger.specs.Changes.{MayCommit, committing, settled, committed_one}
use Rattle.ufs_ledger.specs.Committing.{IsLedgerBy, MayGoOn}
use Rattle.ufs_ledger.specs.Data.{KeepsData}
use Rattle.ufs_ledger.proofs.States.{barrier_quiet, barrier_settles, appends, commits_or_not, commits_for_good, on_one}
use Rattle.ufs_ledger.proofs.Applying.{can_apply}
use Rattle.ufs_ledger.proofs.Committing.{ready_less, unused_less, maybe_by, maybe_ledger, appended_ledger, tried_ledger}
use Rattle.ufs_ledger.proofs.Data.{data_quiet, data_more, data_appended, data_committed}

-- ---- what is known of each step

-- behind the first barrier
pub record IsBarred (sectors : ℕ) (keeps : Bool) (j : Journal) (l : Ledger) (txn : ℕ) (records : List LogRecord) (m0 m1 : Moments) : Type 0 where
  pub by : IsLedgerBy j sectors m0.state l
  pub go : MayGoOn j m0.state l txn records
  pub folds : FoldsCatalogs j.geometry
  pub one_more : FoldsOneMore j.geometry
  pub run : LeavesOnly keeps (IsImage m0.state) m0 m1
  pub same : reads m1 ≡ reads m0

-- while the records are appended
pub record IsAppending (keeps : Bool) (j : Journal) (txn : ℕ) (m1 m2 : Moments) : Type 0 where
  pub still : IsSettled m1.state
  pub run : IsReady j.geometry j.epoch j.used j.number m1.state → IsUnused j.geometry j.epoch txn m1.state → LeavesOnly keeps (IsAppended j.geometry j.epoch m1.state) m1 m2

-- while they are committed, by the journal as it then is
pub record IsCommitting (keeps : Bool) (j k : Journal) (txn : ℕ) (records : List LogRecord) (m1 m2 m3 : Moments) : Type 0 where
  pub same : (k.geometry ≡ j.geometry) × (k.epoch ≡ j.epoch) × (k.number ≡ j.number)
  pub ready : IsReady j.geometry j.epoch j.used j.number m1.state → IsUnused j.geometry j.epoch txn m1.state → IsReady j.geometry j.epoch k.used j.number m2.state
  pub opened : IsReady j.geometry j.epoch j.used j.number m1.state → IsUnused j.geometry j.epoch txn m1.state → IsOpen j.geometry j.epoch k.opened txn records m2.state
  pub run : IsReady k.geometry k.epoch k.used k.number m2.state → IsOpen k.geometry k.epoch k.opened txn records m2.state → CanApply k.geometry k.epoch k.number records (reads m2)
      → LeavesOnly keeps (IsMaybeCommitted k.geometry k.epoch (record { number = k.number; records = records }) m2.state) m2 m3

-- ---- what a commit has come to

-- at any of these moments
pub record IsStopped (sectors : ℕ) (keeps : Bool) (j : Journal) (l : Ledger) (records : List LogRecord) (m0 m : Moments) : Type 0 where
  pub crash : LeavesOnly keeps (λ image. IsLeftBy sectors l image ⊎ IsLeftBy sectors (committing (record { number = j.number; records = records }) (settled l)) image) m0 m
  pub kept : LeavesOnly keeps (KeepsData j.geometry l.now.log m0.state) m0 m
  pub ledger : (n : ℕ) → n ≡ sectors → IsLedgerOf n m.state l ⊎ IsLedgerOf n m.state (committing (record { number = j.number; records = records }) (settled l))

-- at its end
pub record IsEnded (sectors : ℕ) (keeps : Bool) (j k : Journal) (l : Ledger) (txn : ℕ) (records : List LogRecord) (m0 m1 m2 m : Moments) : Type 0 where
  pub stopped : IsStopped sectors keeps j l records m0 m
  pub ready1 : IsReady j.geometry j.epoch j.used j.number m1.state
  pub unused1 : IsUnused j.geometry j.epoch txn m1.state
  pub ready : IsReady k.geometry k.epoch k.used k.number m2.state
  pub opened : IsOpen k.geometry k.epoch k.opened txn records m2.state
  pub applies : CanApply k.geometry k.epoch k.number records (reads m2)
  pub ledger : (n : ℕ) → n ≡ sectors → IsSettled m.state → CommitsOne k.geometry k.epoch (record { number = k.number; records = records }) (reads m2) (reads m)
      → IsLedgerOf n m.state (committed_one (record { number = j.number; records = records }) l)

module _ {sectors : ℕ} {keeps : Bool} {j : Journal} {l : Ledger} {txn : ℕ} {records : List LogRecord} {m0 m1 : Moments} (b : IsBarred sectors keeps j l txn records m0 m1) where
  abbrev one : Committed
  one = record { number = j.number; records = records }

  folds : FoldsCatalogs (geometry_of l.superblock)
  folds = subst FoldsCatalogs (sym b.by.geometry) b.folds

  one_more : FoldsOneMore (geometry_of l.superblock)
  one_more = subst FoldsOneMore (sym b.by.geometry) b.one_more

  may : MayCommit (geometry_of l.superblock) one l.now
  may = subst (λ g. MayCommit g one l.now) (sym b.by.geometry) b.go.may

  ledger1 : IsLedgerOf sectors m1.state l
  ledger1 = barrier_quiet sectors m0.state m1.state l b.by.is b.run.after b.same

  ready1 : IsReady j.geometry j.epoch j.used j.number m1.state
  ready1 = ready_less j.geometry j.epoch j.used j.number m0.state m1.state b.run.after b.by.ready

  unused1 : IsUnused j.geometry j.epoch txn m1.state
  unused1 = unused_less j.geometry j.epoch txn m0.state m1.state b.run.after b.go.unused

  -- what a crash may leave at each moment: what it might have left, or once all is settled the transaction too
  abbrev AtEach : Image → Type 0
  AtEach image = IsLeftBy sectors l image ⊎ IsLeftBy sectors (committing one (settled l)) image

  crash1 : LeavesOnly keeps AtEach m0 m1
  crash1 = weaker keeps (IsImage m0.state) AtEach (λ image left. inl (b.by.is.images image left)) m0 m1 b.run

  kept1 : LeavesOnly keeps (KeepsData j.geometry l.now.log m0.state) m0 m1
  kept1 = data_quiet j.geometry l.now.log keeps m0 m1 b.run

  pub stopped1 : IsStopped sectors keeps j l records m0 m1
  stopped1 = record { crash = crash1; kept = kept1; ledger = λ n e. inl (subst (λ n. IsLedgerOf n m1.state l) (sym e) ledger1) }

  module _ {m2 : Moments} (a : IsAppending keeps j txn m1 m2) where
    run2 : LeavesOnly keeps (IsAppended j.geometry j.epoch m1.state) m1 m2
    run2 = a.run ready1 unused1

    run2' : LeavesOnly keeps (IsAppended (geometry_of l.superblock) l.superblock.epoch m1.state) m1 m2
    run2' = subst (λ (x : Geometry × ℕ). LeavesOnly keeps (IsAppended x.0 x.1 m1.state) m1 m2) (λ i. (sym b.by.geometry i, sym b.by.epoch i)) run2

    settled1 : IsLedgerOf sectors m1.state (settled l)
    settled1 = barrier_settles sectors m0.state m1.state l b.by.none b.by.is b.run.after b.same a.still

    settled2 : IsLedgerOf sectors m2.state (settled l)
    settled2 = appended_ledger sectors m1.state m2.state (settled l) b.by.none b.by.in_use a.still settled1 run2'.after

    crash2 : LeavesOnly keeps AtEach m0 m2
    crash2 = joined keeps AtEach m0 m1 m2 crash1
        (weaker keeps (IsAppended (geometry_of l.superblock) l.superblock.epoch m1.state) AtEach (λ image appended. inr (maybe_by sectors (settled l) one image b.by.none (appends sectors m1.state (settled l) image b.by.none b.by.in_use settled1 appended))) m1 m2 run2')

    kept2 : LeavesOnly keeps (KeepsData j.geometry l.now.log m0.state) m0 m2
    kept2 = data_more j.geometry l.now.log keeps m0 m1 m2 (IsAppended j.geometry j.epoch m1.state) kept1 run2 (data_appended j.geometry l.now.log j.epoch m1.state)

    pub stopped2 : IsStopped sectors keeps j l records m0 m2
    stopped2 = record { crash = crash2; kept = kept2; ledger = λ n e. inr (subst (λ n. IsLedgerOf n m2.state (committing one (settled l))) (sym e) (maybe_ledger sectors m2.state (settled l) one b.by.none settled2)) }

    applies2 : CanApply j.geometry j.epoch j.number records (reads m2)
    applies2 =
        let left = on_one sectors (settled l) (reads m2) b.by.none (settled2.images (reads m2) (seen_is_image m2.state)) in
        subst (λ (x : Geometry × ℕ). CanApply x.0 x.1 j.number records (reads m2)) (λ i. (b.by.geometry i, b.by.epoch i)) (can_apply sectors l.superblock (settled l).blocks l.now (reads m2) left one may)

    module _ {k : Journal} {m3 : Moments} (c : IsCommitting keeps j k txn records m1 m2 m3) where
      ready2 : IsReady k.geometry k.epoch k.used k.number m2.state
      ready2 = subst (λ (x : Geometry × ℕ × ℕ). IsReady x.0 x.1 k.used x.2 m2.state) (λ i. (sym c.same.0 i, sym c.same.1 i, sym c.same.2 i)) (c.ready ready1 unused1)

      opened2 : IsOpen k.geometry k.epoch k.opened txn records m2.state
      opened2 = subst (λ (x : Geometry × ℕ). IsOpen x.0 x.1 k.opened txn records m2.state) (λ i. (sym c.same.0 i, sym c.same.1 i)) (c.opened ready1 unused1)

      applies2' : CanApply k.geometry k.epoch k.number records (reads m2)
      applies2' = subst (λ (x : Geometry × ℕ × ℕ). CanApply x.0 x.1 x.2 records (reads m2)) (λ i. (sym c.same.0 i, sym c.same.1 i, sym c.same.2 i)) applies2

      run3 : LeavesOnly keeps (IsMaybeCommitted j.geometry j.epoch one m2.state) m2 m3
      run3 = subst (λ (x : Geometry × ℕ × ℕ). LeavesOnly keeps (IsMaybeCommitted x.0 x.1 (record { number = x.2; records = records }) m2.state) m2 m3) (λ i. (c.same.0 i, c.same.1 i, c.same.2 i)) (c.run ready2 opened2 applies2')

      run3' : LeavesOnly keeps (IsMaybeCommitted (geometry_of l.superblock) l.superblock.epoch one m2.state) m2 m3
      run3' = subst (λ (x : Geometry × ℕ). LeavesOnly keeps (IsMaybeCommitted x.0 x.1 one m2.state) m2 m3) (λ i. (sym b.by.geometry i, sym b.by.epoch i)) run3

      crash3 : LeavesOnly keeps AtEach m0 m3
      crash3 = joined keeps AtEach m0 m2 m3 crash2
          (weaker keeps (IsMaybeCommitted (geometry_of l.superblock) l.superblock.epoch one m2.state) AtEach
          (λ image maybe. inr (commits_or_not sectors m2.state (settled l) one image folds one_more b.by.none b.by.in_use settled2 b.by.later may maybe)) m2 m3 run3')

      kept3 : LeavesOnly keeps (KeepsData j.geometry l.now.log m0.state) m0 m3
      kept3 = data_more j.geometry l.now.log keeps m0 m2 m3 (IsMaybeCommitted j.geometry j.epoch one m2.state) kept2 run3 (data_committed j.geometry l.now.log j.epoch one m2.state)

      err3 : IsLedgerOf sectors m3.state (committing one (settled l))
      err3 = tried_ledger sectors (settled l) one folds one_more b.by.none b.by.in_use b.by.later may m1.state m2.state m3.state a.still settled1 run2'.after run3'.after

      ok3 : IsSettled m3.state → CommitsOne k.geometry k.epoch (record { number = k.number; records = records }) (reads m2) (reads m3) → IsLedgerOf sectors m3.state (committed_one one l)
      ok3 end commits = commits_for_good sectors m2.state m3.state (settled l) one folds one_more b.by.none b.by.in_use settled2 b.by.later may end
          (subst (λ (x : Geometry × ℕ × ℕ). CommitsOne x.0 x.1 (record { number = x.2; records = records }) (reads m2) (reads m3)) (λ i. ((c.same.0 ∙ sym b.by.geometry) i, (c.same.1 ∙ sym b.by.epoch) i, c.same.2 i)) commits)

      pub ended3 : IsEnded sectors keeps j k l txn records m0 m1 m2 m3
      ended3 = record {
        stopped = record { crash = crash3; kept = kept3; ledger = λ n e. inr (subst (λ n. IsLedgerOf n m3.state (committing one (settled l))) (sym e) err3) };
        ready1 = ready1;
        unused1 = unused1;
        ready = ready2;
        opened = opened2;
        applies = applies2';
        ledger = λ n e end commits. subst (λ n. IsLedgerOf n m3.state (committed_one one l)) (sym e) (ok3 end commits);
      }

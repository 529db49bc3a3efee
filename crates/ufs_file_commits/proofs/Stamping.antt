-- What a crash may leave of a file's writes and of its commit, as it is told to each call.
use Rattle.std.proofs.Common.{◌≡◌, ◌≢◌, ◌<◌, ℕ, List, [], ◌∷◌, length, subst, sym}
use Rattle.ufs_base.specs.Images.{Image}
use Rattle.ufs_file.specs.Hand.{FileState}
use Rattle.ufs_ilog.specs.Deltas.{FileLog, IsDelta}
use Rattle.ufs_ledger.specs.Ledger.{IsLeftBy}
use Rattle.ufs_store.specs.Ledgers.{HasLedger, IsLeftByAny, stages}
use Rattle.ufs_store.specs.Stamping.{MayLeaveDelta, MayLeaveWritten}
use Rattle.ufs_store.specs.State.{StoreState}
use Rattle.ufs_file_commits.specs.Stamping.{MayLeaveSynced, MayLeaveWrites}
use Rattle.ufs_file_commits.specs.State.{DurableState}
use Rattle.ufs_file_commits.specs.Writes.{BlockWrite, with_writes, write_at, writes_before, writes_of}
use Rattle.ufs_file_commits.proofs.Stages.{may_between}
use Rattle.ufs_file_commits.proofs.Turns.{left_here, may_here}

-- ---- what more is allowed may be left too

module _ (P Q : Image → Type 0) (s : StoreState) where
  pub writes_more : (ws : List BlockWrite) → MayLeaveWrites P s ws → ((image : Image) → P image → Q image) → MayLeaveWrites Q s ws
  writes_more ws leaves more = record { ledger = leaves.ledger; knows = leaves.knows; may = leaves.may; allowed = λ image left. more image (leaves.allowed image left) }

  pub synced_more : (f : DurableState) → MayLeaveSynced P s f → ((image : Image) → P image → Q image) → MayLeaveSynced Q s f
  synced_more f leaves more = record {
    ledger = leaves.ledger;
    knows = leaves.knows;
    may = leaves.may;
    written = λ image left. more image (leaves.written image left);
    changed = λ some records delta. let both = leaves.changed some records delta in (both.0, λ between image left. more image (both.1 between image left));
  }

-- ---- the calls of an fsync

module _ (P : Image → Type 0) where
  -- all its writes
  pub synced_writes : (s : StoreState) (f : DurableState) → MayLeaveSynced P s f → MayLeaveWrites P s (writes_of f.file)
  synced_writes s f leaves = record { ledger = leaves.ledger; knows = leaves.knows; may = leaves.may; allowed = leaves.written }

  -- those at one place, behind the ones before it
  pub writes_here : (f : FileState) (k : ℕ) → k < length f.content.dirty → (s now : StoreState) → now.sectors ≡ s.sectors → (leaves : MayLeaveWrites P s (writes_of f))
      → HasLedger now (with_writes (writes_before f k) leaves.ledger) → MayLeaveWrites P now (write_at f k)
  writes_here f k less s now same leaves has = record {
    ledger = with_writes (writes_before f k) leaves.ledger;
    knows = has;
    may = may_here f k less leaves.ledger leaves.may;
    allowed = λ image left. leaves.allowed image
        (left_here f k less leaves.ledger s.sectors image (subst (λ n. IsLeftBy n (with_writes (write_at f k) (with_writes (writes_before f k) leaves.ledger)) image) same left));
  }

  -- one write
  pub one_written : (s : StoreState) (w : BlockWrite) (block : ℕ) (bytes : List ℕ) → w.block ≡ block → w.bytes ≡ bytes → MayLeaveWrites P s (w ∷ []) → MayLeaveWritten P s block bytes
  one_written s w block bytes here same leaves =
      subst (λ (x : BlockWrite). MayLeaveWritten P s x.block x.bytes) (λ i. record { block = here i; bytes = same i })
      (record { ledger = leaves.ledger; knows = leaves.knows; may = leaves.may.0; allowed = leaves.allowed })

  -- the commit, behind the writes
  pub synced_delta : (s mid : StoreState) → mid ≡ record s { moments = mid.moments; unsettled = mid.unsettled } → (f : DurableState) (log : FileLog) → f.log ≡ log → log.noted ≢ log.committed
      → (leaves : MayLeaveSynced P s f) → HasLedger mid (with_writes (writes_of f.file) leaves.ledger) → MayLeaveDelta P mid log
  synced_delta s mid same f log is some leaves has records delta =
      let changed = leaves.changed (subst (λ (x : FileLog). x.noted ≢ x.committed) (sym is) some) records (subst (λ (x : FileLog). IsDelta x.inode x.committed x.noted records) (sym is) delta) in
      record {
        ledger = with_writes (writes_of f.file) leaves.ledger;
        knows = has;
        may = may_between s mid same records (writes_of f.file) leaves.ledger changed.0;
        allowed = λ image left. changed.1 mid.moments image (subst (λ (t : StoreState). IsLeftByAny t.sectors (stages t records (with_writes (writes_of f.file) leaves.ledger)) image) same left);
      }

-- A commit behind writes.
use Rattle.std.proofs.Common.{◌≡◌, ◌⊎◌, ℕ, inl, inr, List, Bool, true, false, sym, subst, ◌∷◌}
use Rattle.std.specs.Prelude.{if◌then◌else◌}
use Rattle.ufs_disk.specs.Moments.{LeavesOnly, Moments}
use Rattle.ufs_disk.proofs.Runs.{joined, weaker}
use Rattle.ufs_layout.specs.declared.records.LogRecord.{LogRecord}
use Rattle.ufs_ledger.specs.Changes.{MayCommit}
use Rattle.ufs_ledger.specs.Ledger.{IsLedgerOf, IsLeftBy, Ledger, Stand}
use Rattle.ufs_store.specs.Ledgers.{AnyOf, HasAny, HasLedger, IsLeftByAny, MayCommitNext, after_commit, beginning_next, checkpointed, commit_stages, stages}
use Rattle.ufs_store.specs.State.{StoreState, geometry_of_store, has_room, next_commit}
use Rattle.ufs_file_commits.specs.Writes.{BlockWrite, HasCommitted, at_moments, with_writes}
use Rattle.ufs_file_commits.proofs.Behind.{same_now}

-- The first stage is the ledger from before.
pub first_stage : (P : Ledger → Type 0) (s : StoreState) (records : List LogRecord) (l : Ledger) → P l → AnyOf P (stages s records l)
first_stage P s records l here = by (has_room s records)
  where
    by : (b : Bool) → AnyOf P (if b then commit_stages (next_commit s records) l else l ∷ beginning_next s l ∷ commit_stages (next_commit s records) (checkpointed s l))
    by true = inl here
    by false = inl here

-- A run that leaves what the ledger has from before
pub run_before : (keeps : Bool) (s : StoreState) (records : List LogRecord) (l : Ledger) (sectors : ℕ) (old new : Moments) → LeavesOnly keeps (IsLeftBy sectors l) old new → LeavesOnly keeps (IsLeftByAny sectors (stages s records l)) old new
run_before keeps s records l sectors old new run = weaker keeps (IsLeftBy sectors l) (IsLeftByAny sectors (stages s records l)) (λ image left. first_stage (λ m. IsLeftBy sectors m image) s records l left) old new run

-- A write failed.
pub crash_early : (keeps : Bool) (s : StoreState) (records : List LogRecord) (l : Ledger) (new : Moments) → LeavesOnly keeps (IsLeftBy s.sectors l) s.moments new
    → (between : Moments) × LeavesOnly keeps (IsLeftByAny s.sectors (stages (at_moments between s) records l)) s.moments new
crash_early keeps s records l new run = (s.moments, run_before keeps (at_moments s.moments s) records l s.sectors s.moments new run)

-- Behind the writes the store is as before, but for its disk.
module _ (s mid : StoreState) (same : mid ≡ record s { moments = mid.moments; unsettled = mid.unsettled }) where
  pub may_between : (records : List LogRecord) (ws : List BlockWrite) (l : Ledger) → MayCommitNext s records l → MayCommitNext mid records (with_writes ws l)
  may_between records ws l may =
      subst (λ (t : StoreState). MayCommitNext t records (with_writes ws l)) (sym same)
      (subst (λ (now : Stand). MayCommit (geometry_of_store s) (next_commit s records) now) (sym (same_now ws l)) may)

  pub crash_whole : (keeps : Bool) (records : List LogRecord) (l : Ledger) (new : Moments) → LeavesOnly keeps (IsLeftBy s.sectors l) s.moments mid.moments → LeavesOnly keeps (IsLeftByAny mid.sectors (stages mid records l)) mid.moments new
      → (between : Moments) × LeavesOnly keeps (IsLeftByAny s.sectors (stages (at_moments between s) records l)) s.moments new
  crash_whole keeps records l new front back = (
    mid.moments,
    joined keeps (IsLeftByAny s.sectors (stages (at_moments mid.moments s) records l)) s.moments mid.moments new
        (run_before keeps (at_moments mid.moments s) records l s.sectors s.moments mid.moments front)
        (subst (λ (t : StoreState). LeavesOnly keeps (IsLeftByAny t.sectors (stages t records l)) mid.moments new) same back),
  )

  pub empty_whole : (keeps : Bool) (l : Ledger) (new : Moments) → LeavesOnly keeps (IsLeftBy s.sectors l) s.moments mid.moments → LeavesOnly keeps (IsLeftBy mid.sectors l) mid.moments new → LeavesOnly keeps (IsLeftBy s.sectors l) s.moments new
  empty_whole keeps l new front back =
      joined keeps (IsLeftBy s.sectors l) s.moments mid.moments new front (subst (λ (t : StoreState). LeavesOnly keeps (IsLeftBy t.sectors l) mid.moments new) same back)

  pub commit_whole : (new : StoreState) (records : List LogRecord) (l : Ledger) → HasLedger mid l → HasLedger new (after_commit mid records l) → HasCommitted s new records l
  commit_whole new records l before after = record {
    between = mid.moments;
    written = subst (λ (t : StoreState). IsLedgerOf t.sectors mid.moments.state l) same before.by.is;
    has = subst (λ (t : StoreState). HasLedger new (after_commit t records l)) same after;
  }

  pub device_whole : (new : StoreState) (records : List LogRecord) (l : Ledger) → HasAny new (stages mid records l) → (between : Moments) × HasAny new (stages (at_moments between s) records l)
  device_whole new records l has = (mid.moments, subst (λ (t : StoreState). HasAny new (stages t records l)) same has)

  pub memory_whole : (new : StoreState) (l : Ledger) → HasLedger new l ⊎ HasLedger new (checkpointed mid l) → HasLedger new l ⊎ ((between : Moments) × HasLedger new (checkpointed (at_moments between s) l))
  memory_whole new l (inl has) = inl has
  memory_whole new l (inr has) = inr (mid.moments, subst (λ (t : StoreState). HasLedger new (checkpointed t l)) same has)

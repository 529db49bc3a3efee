-- Files that stand on a ledger beside one that is written and committed.
use Rattle.std.specs.Prelude.{ℕ, ◌≡◌, ◌≢◌, ◌++◌, List, Some}
use Rattle.std.specs.List.{slice_get}
use Rattle.ufs_disk.specs.Moments.{Moments}
use Rattle.ufs_extent.specs.Runs.{blocks_of}
use Rattle.ufs_ilog.specs.Deltas.{IsDelta}
use Rattle.ufs_layout.specs.declared.records.LogRecord.{LogRecord}
use Rattle.ufs_ledger.specs.Changes.{settled}
use Rattle.ufs_ledger.specs.Ledger.{Ledger}
use Rattle.ufs_store.specs.Ledgers.{HasLedger, checkpointed}
use Rattle.ufs_store.specs.State.{StoreState}
use Rattle.ufs_file_commits.specs.Committing.{HasOwnBlocks, once_committed}
use Rattle.ufs_file_commits.specs.Standing.{StandsFor}
use Rattle.ufs_file_commits.specs.State.{DurableState, IsNoted, file_committed}
use Rattle.ufs_file_commits.specs.Writes.{BlockWrite, with_writes, writes_of}

-- The files have two inodes, and no block together.
pub record IsOther (f h : DurableState) : Type 0 where
  pub inode : h.file.inode ≢ f.file.inode
  pub blocks : (p q block : ℕ) → slice_get (blocks_of f.file.extents) p ≡ Some block → slice_get (blocks_of h.file.extents) q ≡ Some block → ⊥

-- ---- laws

-- A file stands behind a barrier as before it,
abbrev pub StandsBehindBarrier : Type 0
StandsBehindBarrier = (l : Ledger) (h : DurableState) → StandsFor l h → StandsFor (settled l) h

-- behind a checkpoint,
abbrev pub StandsBehindCheckpoint : Type 0
StandsBehindCheckpoint = (s : StoreState) (l : Ledger) (h : DurableState) → HasLedger s l → StandsFor l h → StandsFor (checkpointed s l) h

-- behind each of another file's writes, in turn,
abbrev pub StandsBehindWrites : Type 0
StandsBehindWrites = (l : Ledger) (f h : DurableState) (before behind : List BlockWrite) → IsNoted f → IsOther f h → writes_of f.file ≡ before ++ behind → StandsFor l h → StandsFor (with_writes before l) h

-- and behind another file's commit,
abbrev pub StandsBehindCommit : Type 0
StandsBehindCommit = (s : StoreState) (between : Moments) (records : List LogRecord) (l : Ledger) (f h : DurableState) → HasLedger s l → IsNoted f → IsDelta f.log.inode f.log.committed f.log.noted records → IsOther f h
    → StandsFor l h → StandsFor (once_committed s between records f l) h

-- with its blocks its own.
abbrev pub OwnsBehindCommit : Type 0
OwnsBehindCommit = (s : StoreState) (between : Moments) (records : List LogRecord) (l : Ledger) (f h : DurableState) → HasLedger s l → IsNoted f → StandsFor l f → IsDelta f.log.inode f.log.committed f.log.noted records → IsOther f h
    → HasOwnBlocks l h → HasOwnBlocks (once_committed s between records f l) h

-- The committed file stands there itself.
abbrev pub StandsOnceCommitted : Type 0
StandsOnceCommitted = (s : StoreState) (between : Moments) (records : List LogRecord) (l : Ledger) (f : DurableState) → HasLedger s l → IsNoted f → StandsFor l f → IsDelta f.log.inode f.log.committed f.log.noted records
    → StandsFor (once_committed s between records f l) (file_committed f)

-- What a crash may leave while a file's dirty blocks are written and what changed of it is committed.
use Rattle.std.specs.Prelude.{◌≢◌, List}
use Rattle.ufs_base.specs.Images.{Image}
use Rattle.ufs_disk.specs.Moments.{Moments}
use Rattle.ufs_ilog.specs.Deltas.{IsDelta}
use Rattle.ufs_layout.specs.declared.records.LogRecord.{LogRecord}
use Rattle.ufs_ledger.specs.Ledger.{IsLeftBy, Ledger}
use Rattle.ufs_store.specs.Ledgers.{HasLedger, IsLeftByAny, MayCommitNext, stages}
use Rattle.ufs_store.specs.State.{StoreState}
use Rattle.ufs_file_commits.specs.State.{DurableState}
use Rattle.ufs_file_commits.specs.Writes.{BlockWrite, MayWriteAll, at_moments, with_writes, writes_of}

-- While these blocks are written, one after the other, a crash leaves only images that are allowed.
pub record MayLeaveWrites (allows : Image → Type 0) (s : StoreState) (ws : List BlockWrite) : Type 0 where
  pub ledger : Ledger
  pub knows : HasLedger s ledger
  pub may : MayWriteAll ledger ws
  pub allowed : (image : Image) → IsLeftBy s.sectors (with_writes ws ledger) image → allows image

-- So it does while a file's dirty blocks are written, and then while what changed of its inode is committed.
pub record MayLeaveSynced (allows : Image → Type 0) (s : StoreState) (f : DurableState) : Type 0 where
  pub ledger : Ledger
  pub knows : HasLedger s ledger
  pub may : MayWriteAll ledger (writes_of f.file)
  pub written : (image : Image) → IsLeftBy s.sectors (with_writes (writes_of f.file) ledger) image → allows image
  pub changed : f.log.noted ≢ f.log.committed → (records : List LogRecord) → IsDelta f.log.inode f.log.committed f.log.noted records
      → MayCommitNext s records ledger × ((between : Moments) (image : Image) → IsLeftByAny s.sectors (stages (at_moments between s) records (with_writes (writes_of f.file) ledger)) image → allows image)

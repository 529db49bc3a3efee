-- What a crash may leave of a store's disk while a call writes: its caller tells so before the call.
use Rattle.std.specs.Prelude.{ℕ, List, [], ◌∷◌}
use Rattle.ufs_base.specs.Images.{Image}
use Rattle.ufs_ilog.specs.Deltas.{FileLog, IsDelta}
use Rattle.ufs_layout.specs.declared.records.LogRecord.{LogRecord}
use Rattle.ufs_ledger.specs.Changes.{written}
use Rattle.ufs_ledger.specs.Laws.{MayWrite}
use Rattle.ufs_ledger.specs.Ledger.{IsLeftBy, Ledger}
use Rattle.ufs_store.specs.Ledgers.{HasLedger, IsLeftByAny, MayCommitNext, beginning_next, stages}
use Rattle.ufs_store.specs.State.{StoreState}

-- While a block is written a crash leaves only images that are allowed.
pub record MayLeaveWritten (allows : Image → Type 0) (s : StoreState) (block : ℕ) (bytes : List ℕ) : Type 0 where
  pub ledger : Ledger
  pub knows : HasLedger s ledger
  pub may : MayWrite ledger block bytes
  pub allowed : (image : Image) → IsLeftBy s.sectors (written block bytes ledger) image → allows image

-- So it does while records are committed, and while the checkpoint is made that comes first where room lacks.
pub record MayLeaveStages (allows : Image → Type 0) (s : StoreState) (records : List LogRecord) : Type 0 where
  pub ledger : Ledger
  pub knows : HasLedger s ledger
  pub may : MayCommitNext s records ledger
  pub allowed : (image : Image) → IsLeftByAny s.sectors (stages s records ledger) image → allows image

-- while what changed of a file is committed
abbrev pub MayLeaveDelta : (Image → Type 0) → StoreState → FileLog → Type 0
MayLeaveDelta allows s log = (records : List LogRecord) → IsDelta log.inode log.committed log.noted records → MayLeaveStages allows s records

-- while what is committed is written home and the next epoch begins
pub record MayLeaveHome (allows : Image → Type 0) (s : StoreState) : Type 0 where
  pub ledger : Ledger
  pub knows : HasLedger s ledger
  pub allowed : (image : Image) → IsLeftByAny s.sectors (ledger ∷ beginning_next s ledger ∷ []) image → allows image

-- What more is allowed may be left too.
use Rattle.std.proofs.Common.{ℕ, List}
use Rattle.ufs_base.specs.Images.{Image}
use Rattle.ufs_ilog.specs.Deltas.{FileLog}
use Rattle.ufs_layout.specs.declared.records.LogRecord.{LogRecord}
use Rattle.ufs_store.specs.Stamping.{MayLeaveDelta, MayLeaveHome, MayLeaveStages, MayLeaveWritten}
use Rattle.ufs_store.specs.State.{StoreState}

module _ (P Q : Image → Type 0) (s : StoreState) where
  pub written_more : (block : ℕ) (bytes : List ℕ) → MayLeaveWritten P s block bytes → ((image : Image) → P image → Q image) → MayLeaveWritten Q s block bytes
  written_more block bytes leaves more = record { ledger = leaves.ledger; knows = leaves.knows; may = leaves.may; allowed = λ image left. more image (leaves.allowed image left) }

  pub stages_more : (records : List LogRecord) → MayLeaveStages P s records → ((image : Image) → P image → Q image) → MayLeaveStages Q s records
  stages_more records leaves more = record { ledger = leaves.ledger; knows = leaves.knows; may = leaves.may; allowed = λ image left. more image (leaves.allowed image left) }

  pub delta_more : (log : FileLog) → MayLeaveDelta P s log → ((image : Image) → P image → Q image) → MayLeaveDelta Q s log
  delta_more log leaves more records delta = stages_more records (leaves records delta) more

  pub home_more : MayLeaveHome P s → ((image : Image) → P image → Q image) → MayLeaveHome Q s
  home_more leaves more = record { ledger = leaves.ledger; knows = leaves.knows; allowed = λ image left. more image (leaves.allowed image left) }

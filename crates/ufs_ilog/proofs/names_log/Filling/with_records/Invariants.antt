use Rattle.std.proofs.Common.{List, ◌++◌, take}
use Rattle.ufs_layout.specs.declared.records.LogRecord.{LogRecord}
use Rattle.ufs_ilog.specs.Filling.{IsFilling}
use Rattle.ufs_ilog.proofs.names_log.Filling.with_records.Given as goal

abbrev pub invariant-loop-record : goal.invariant-loop-record
invariant-loop-record l = (before : List LogRecord) → IsFilling l.fn.self.sectors l.fn.self.used before → IsFilling l.filling.sectors l.filling.used (before ++ take l.record-index l.records)

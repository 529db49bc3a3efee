use Rattle.std.proofs.Common.{◌≡◌, ◌<◌, ℕ, false, get_or}
use Rattle.ufs_layout.specs.declared.records.LogRecord.{LogRecord}
use Rattle.ufs_ilog.specs.Changes.{may_follow}
use Rattle.ufs_ilog.proofs.change.place_for.Given as goal

abbrev pub invariant-loop-at : goal.invariant-loop-at
invariant-loop-at l = (d : LogRecord) (k : ℕ) → k < l.at → may_follow l.added (get_or l.records k d) ≡ false
